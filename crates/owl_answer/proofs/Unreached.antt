-- What a document says that the main one does not reach changes nothing.
use Rattle.std.proofs.Common.{ℕ, List, sym, subst}
use Rattle.owl_close.specs.Imports.{Reaches}
use Rattle.owl_close.proofs.UnreachedLaws.{DifferUnreached, first_missing_unreached, none_missing_unreached, reaches_unreached, unreached_back}
use Rattle.owl_command.specs.Commands.{Request, compares, of_main, tries}
use Rattle.owl_documents.specs.Documents.{Parsed}
use Rattle.owl_kind.specs.Kinds.{Entity}
use Rattle.owl_tree.specs.Ontologies.{Head}
use Rattle.owl_answer.specs.KindsAt.{AreClosureKinds}
use Rattle.owl_answer.specs.Outcome.{heads_in}
use Rattle.owl_answer.specs.UnderKinds.{HasKinds, IsOfMain}
use Rattle.owl_answer.specs.Unreached.{AreSameBut, UnreachedChangeNothing}
use Rattle.owl_answer.proofs.Agreement.{Agree, AgreeAsRead, concludes_there}
use Rattle.owl_answer.proofs.Closures.{found_but, kinds_but}
use Rattle.owl_answer.proofs.GuessedDocuments.{guessed_but, guessed_heads}
use Rattle.owl_answer.proofs.Heads.{alike_but, but_back}

-- of a main document those are read that it reaches
closure_of : (request : Request) → IsOfMain request → (documents : List Parsed) (place : ℕ) (parsed : Parsed) (kinds : List Entity) → HasKinds request documents place parsed kinds → Reaches (heads_in documents) place × AreClosureKinds documents kinds
closure_of (of_main action options names) m documents place parsed kinds h = h
closure_of (compares first second) m documents place parsed kinds h = absurd m
closure_of (tries size) m documents place parsed kinds h = absurd m

kinds_of_closure : (request : Request) → IsOfMain request → (documents : List Parsed) (place : ℕ) (parsed : Parsed) (kinds : List Entity) → Reaches (heads_in documents) place → AreClosureKinds documents kinds → HasKinds request documents place parsed kinds
kinds_of_closure (of_main action options names) m documents place parsed kinds r k = (r, k)
kinds_of_closure (compares first second) m documents place parsed kinds r k = absurd m
kinds_of_closure (tries size) m documents place parsed kinds r k = absurd m

but_agree : (request : Request) → IsOfMain request → (place : ℕ) (ds es : List Parsed) → AreSameBut place ds es → DifferUnreached place (heads_in ds) (heads_in es) → Agree request ds es
but_agree request m place ds es s d = record {
  read = λ other parsed kinds r.
      let h = closure_of request m ds other parsed kinds r.under in
      let found = found_but place ds es s other (λ e. d.unreached (subst (Reaches (heads_in ds)) e h.0)) parsed r.there in
      let reached = reaches_unreached place (heads_in ds) (heads_in es) d other h.0 in
      record {
        other = found.other;
        read = record { there = found.there; under = kinds_of_closure request m es other found.other kinds reached (kinds_but place ds es s d kinds h.1) };
        same = found.same;
      };
}

but_as_read : (request : Request) → IsOfMain request → (place : ℕ) (ds es : List Parsed) → AreSameBut place ds es →
    DifferUnreached place (heads_in ds) (heads_in es) → AgreeAsRead request ds es
but_as_read request m place ds es s d = record {
  missing = λ other iri h. first_missing_unreached place (heads_in ds) (heads_in es) d other iri h;
  none = λ none. none_missing_unreached place (heads_in ds) (heads_in es) d none;
  guessed = λ gs h.
      let more = guessed_but place request ds es s d gs h in
      let hs = more.others in
      let differ : DifferUnreached place (heads_in gs) (heads_in hs) =
      subst (λ (xs : List Head). DifferUnreached place xs (heads_in hs)) (sym (guessed_heads request ds gs h))
      (subst (λ (xs : List Head). DifferUnreached place (heads_in ds) xs) (sym (guessed_heads request es hs more.are)) d) in
      record {
        others = hs;
        are = more.are;
        there = but_agree request m place gs hs more.same differ;
        back = but_agree request m place hs gs (but_back place gs hs more.same) (unreached_back place (heads_in gs) (heads_in hs) differ);
      };
}

pub change_nothing : UnreachedChangeNothing
change_nothing request place ds es outcome m s here there h =
    let d : DifferUnreached place (heads_in ds) (heads_in es) = record { alike = alike_but place ds es s; unreached = here; there = there } in
    concludes_there request ds es (but_as_read request m place ds es s d) outcome h
