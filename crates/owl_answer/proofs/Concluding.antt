-- What is concluded of documents that are read as the same is one.
use Rattle.std.proofs.Common.{◌≡◌, ℕ, List}
use Rattle.owl_close.proofs.ImportsLaws.{alike_back, first_missing_alike, missing_alike, reaches_alike}
use Rattle.owl_command.specs.Commands.{Request, compares, of_main, tries}
use Rattle.owl_documents.specs.Documents.{Parsed}
use Rattle.owl_documents.specs.OneWay.{AreSame, IsSameParsed, NeverBoth, ReadOneWay, RefusedOneWay}
use Rattle.owl_kind.specs.Kinds.{Entity}
use Rattle.owl_answer.specs.Outcome.{heads_in}
use Rattle.owl_answer.specs.Runs.{Concludes}
use Rattle.owl_answer.specs.UnderKinds.{HasKinds}
use Rattle.owl_answer.proofs.Agreement.{Agree, AgreeAsRead, concludes_once, concludes_there}
use Rattle.owl_answer.proofs.Closures.{found_alike, kinds_alike, own_alike}
use Rattle.owl_answer.proofs.GuessedDocuments.{guessed_same}
use Rattle.owl_answer.proofs.Heads.{alike, same_back}
use Rattle.owl_messages.specs.Outcome.{Outcome}

has_kinds : (request : Request) (ds es : List Parsed) → AreSame ds es → (place : ℕ) (p q : Parsed) (kinds : List Entity) → IsSameParsed p q → HasKinds request ds place p kinds → HasKinds request es place q kinds
has_kinds (of_main action options names) ds es s place p q kinds t h =
    (reaches_alike (heads_in ds) (heads_in es) (alike ds es s) place h.0, kinds_alike ds es kinds s h.1)
has_kinds (compares first second) ds es s place p q kinds t h = own_alike p q kinds t h
has_kinds (tries size) ds es s place p q kinds t h = absurd h

same_agree : (request : Request) (ds es : List Parsed) → AreSame ds es → Agree request ds es
same_agree request ds es s = record {
  read = λ place parsed kinds r.
      let found = found_alike ds es s place parsed r.there in
      record {
        other = found.other;
        read = record { there = found.there; under = has_kinds request ds es s place parsed found.other kinds found.same r.under };
        same = found.same;
      };
}

same_as_read : (request : Request) (ds es : List Parsed) → AreSame ds es → AgreeAsRead request ds es
same_as_read request ds es s =
    let heads = alike ds es s in
    record {
      missing = λ place iri m. first_missing_alike (heads_in ds) (heads_in es) heads place iri m;
      none = λ none place iri m. none place iri (missing_alike (heads_in es) (heads_in ds) (alike_back (heads_in ds) (heads_in es) heads) place iri m);
      guessed = λ gs h.
          let more = guessed_same request ds es s gs h in
          record {
            others = more.others;
            are = more.are;
            there = same_agree request gs more.others more.same;
            back = same_agree request more.others gs (same_back gs more.others more.same);
          };
    }

pub concluded_once : ReadOneWay → RefusedOneWay → NeverBoth → (request : Request) (ds es : List Parsed) → AreSame ds es → (a b : Outcome) → Concludes request ds a → Concludes request es b → a ≡ b
concluded_once read_way refused_way never request ds es s a b h k =
    concludes_once read_way refused_way never request es a b (concludes_there request ds es (same_as_read request ds es s) a h) k
