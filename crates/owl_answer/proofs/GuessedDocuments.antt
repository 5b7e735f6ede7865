-- Documents with guesses are one, and are the same of documents that are read as the same.
use Rattle.std.proofs.Common.{◌≡◌, ◌<◌, ℕ, zero, suc, Bool, true, false, List, [], ◌∷◌, ◌++◌, length, map, refl, sym, ap, ◌∙◌, subst}
use Rattle.std.proofs.lemmas.List.{append-nil, append_assoc, length-map, map-append}
use Rattle.owl_command.specs.Commands.{Guesses, IsAllowed, Request, compares, names_of, of_main, tries}
use Rattle.owl_documents.specs.Documents.{Parsed, a_graph, an_ontology, head_in, parsed_of, the_frames}
use Rattle.owl_documents.specs.declared.document.Document.{Document}
use Rattle.owl_documents.specs.OneWay.{AreSame, IsSameParsed}
use Rattle.owl_close.proofs.UnreachedLaws.{DifferUnreached}
use Rattle.owl_kind.specs.Kinds.{Entity}
use Rattle.owl_messages.specs.Outcome.{Outcome}
use Rattle.owl_tree.specs.Ontologies.{Head}
use Rattle.rdf_graph.specs.declared.triple.Triple.{Triple}
use Rattle.rdf_reverse.specs.Guesses.{guessed}
use Rattle.rdf_thin.specs.Thinned.{thinned}
use Rattle.owl_answer.specs.Answers.{IsAnswerBy, IsConclusion}
use Rattle.owl_answer.specs.Guessing.{AreGuessed, AreGuessedWhere, AreWithGuesses, with_guesses}
use Rattle.owl_answer.specs.KindsAt.{AreClosureKinds}
use Rattle.owl_answer.specs.Outcome.{heads_in}
use Rattle.owl_answer.specs.Runs.{HasImports, misses_none}
use Rattle.owl_answer.specs.Unreached.{AreSameBut}
use Rattle.owl_answer.proofs.Closures.{closure_once, kinds_alike, kinds_but}

-- ---- one list of them

where_once : (guesses : Bool) (documents gs hs : List Parsed) → AreGuessedWhere guesses documents gs → AreGuessedWhere guesses documents hs → gs ≡ hs
where_once false documents gs hs h k = h ∙ sym k
where_once true documents gs hs h k =
    h.are ∙ ap (λ kinds. map (with_guesses kinds) documents) (closure_once documents h.kinds k.kinds h.declared k.declared) ∙ sym k.are

pub guessed_once : (request : Request) (documents gs hs : List Parsed) → AreGuessed request documents gs → AreGuessed request documents hs → gs ≡ hs
guessed_once (of_main action options names) documents gs hs h k = where_once options.guess documents gs hs h k
guessed_once (compares first second) documents gs hs h k = h ∙ sym k
guessed_once (tries size) documents gs hs h k = h ∙ sym k

-- ---- their heads and their number are those of the documents

head_with : (kinds : List Entity) (parsed : Parsed) → head_in (with_guesses kinds parsed) ≡ head_in parsed
head_with kinds (an_ontology written said) = refl
head_with kinds (a_graph read) = refl
head_with kinds (the_frames d) = refl

heads_with : (kinds : List Entity) (documents : List Parsed) → heads_in (map (with_guesses kinds) documents) ≡ heads_in documents
heads_with kinds [] = refl
heads_with kinds (d ∷ documents) =
    ap (λ (h : Head). h ∷ heads_in (map (with_guesses kinds) documents)) (head_with kinds d) ∙ ap (λ (hs : List Head). head_in d ∷ hs) (heads_with kinds documents)

where_heads : (guesses : Bool) (documents gs : List Parsed) → AreGuessedWhere guesses documents gs → heads_in gs ≡ heads_in documents
where_heads false documents gs h = ap heads_in h
where_heads true documents gs h = ap heads_in h.are ∙ heads_with h.kinds documents

pub with_heads : (documents gs : List Parsed) → AreWithGuesses documents gs → heads_in gs ≡ heads_in documents
with_heads documents gs h = where_heads true documents gs h

pub guessed_heads : (request : Request) (documents gs : List Parsed) → AreGuessed request documents gs → heads_in gs ≡ heads_in documents
guessed_heads (of_main action options names) documents gs h = where_heads options.guess documents gs h
guessed_heads (compares first second) documents gs h = ap heads_in h
guessed_heads (tries size) documents gs h = ap heads_in h

pub guessed_length : (request : Request) (documents gs : List Parsed) → AreGuessed request documents gs → length gs ≡ length documents
guessed_length request documents gs h =
    sym (length-map gs head_in) ∙ ap (λ (hs : List Head). length hs) (guessed_heads request documents gs h) ∙ length-map documents head_in

-- ---- documents that are read as the same

same_with : (kinds : List Entity) (d e : Parsed) → IsSameParsed d e → IsSameParsed (with_guesses kinds d) (with_guesses kinds e)
same_with kinds (an_ontology v a) (an_ontology w b) s = s
same_with kinds (an_ontology v a) (a_graph b) s = absurd s
same_with kinds (an_ontology v a) (the_frames b) s = absurd s
same_with kinds (a_graph a) (an_ontology w b) s = absurd s
same_with kinds (a_graph a) (a_graph b) s = record {
  prefixes = s.prefixes;
  triples = s.triples;
  head = s.head;
  guessed = ap (λ (ts : List Triple). guessed (thinned ts) kinds) s.triples;
}
same_with kinds (a_graph a) (the_frames b) s = absurd s
same_with kinds (the_frames a) (an_ontology w b) s = absurd s
same_with kinds (the_frames a) (a_graph b) s = absurd s
same_with kinds (the_frames a) (the_frames b) s = s

all_same_with : (kinds : List Entity) (ds es : List Parsed) → AreSame ds es → AreSame (map (with_guesses kinds) ds) (map (with_guesses kinds) es)
all_same_with kinds [] [] s = tt
all_same_with kinds [] (e ∷ es) s = absurd s
all_same_with kinds (d ∷ ds) [] s = absurd s
all_same_with kinds (d ∷ ds) (e ∷ es) s = (same_with kinds d e s.0, all_same_with kinds ds es s.1)

-- what is guessed of the others is the same
pub record AreGuessedSame (request : Request) (gs es : List Parsed) : Type 0 where
  pub others : List Parsed
  pub are : AreGuessed request es others
  pub same : AreSame gs others

same_where : (guesses : Bool) (ds es : List Parsed) → AreSame ds es → (gs : List Parsed) → AreGuessedWhere guesses ds gs →
    (others : List Parsed) × AreGuessedWhere guesses es others × AreSame gs others
same_where false ds es s gs h = (es, refl, subst (λ xs. AreSame xs es) (sym h) s)
same_where true ds es s gs h =
    let others = map (with_guesses h.kinds) es in (
      others,
      record { kinds = h.kinds; declared = kinds_alike ds es h.kinds s h.declared; are = refl },
      subst (λ xs. AreSame xs others) (sym h.are) (all_same_with h.kinds ds es s),
    )

pub guessed_same : (request : Request) (ds es : List Parsed) → AreSame ds es → (gs : List Parsed) → AreGuessed request ds gs → AreGuessedSame request gs es
guessed_same (of_main action options names) ds es s gs h =
    let w = same_where options.guess ds es s gs h in record { others = w.0; are = w.1; same = w.2 }
guessed_same (compares first second) ds es s gs h = record { others = es; are = refl; same = subst (λ xs. AreSame xs es) (sym h) s }
guessed_same (tries size) ds es s gs h = record { others = es; are = refl; same = subst (λ xs. AreSame xs es) (sym h) s }

-- ---- and but at one place

all_same_but : (place : ℕ) (kinds : List Entity) (ds es : List Parsed) → AreSameBut place ds es → AreSameBut place (map (with_guesses kinds) ds) (map (with_guesses kinds) es)
all_same_but place kinds [] es s = absurd s
all_same_but place kinds (d ∷ ds) [] s = absurd s
all_same_but zero kinds (d ∷ ds) (e ∷ es) s = all_same_with kinds ds es s
all_same_but (suc place) kinds (d ∷ ds) (e ∷ es) s = (same_with kinds d e s.0, all_same_but place kinds ds es s.1)

pub record AreGuessedBut (place : ℕ) (request : Request) (gs es : List Parsed) : Type 0 where
  pub others : List Parsed
  pub are : AreGuessed request es others
  pub same : AreSameBut place gs others

but_where : (guesses : Bool) (place : ℕ) (ds es : List Parsed) → AreSameBut place ds es → DifferUnreached place (heads_in ds) (heads_in es) → (gs : List Parsed) →
    AreGuessedWhere guesses ds gs → (others : List Parsed) × AreGuessedWhere guesses es others × AreSameBut place gs others
but_where false place ds es s u gs h = (es, refl, subst (λ xs. AreSameBut place xs es) (sym h) s)
but_where true place ds es s u gs h =
    let others = map (with_guesses h.kinds) es in (
      others,
      record { kinds = h.kinds; declared = kinds_but place ds es s u h.kinds h.declared; are = refl },
      subst (λ xs. AreSameBut place xs others) (sym h.are) (all_same_but place h.kinds ds es s),
    )

pub guessed_but : (place : ℕ) (request : Request) (ds es : List Parsed) → AreSameBut place ds es → DifferUnreached place (heads_in ds) (heads_in es) →
    (gs : List Parsed) → AreGuessed request ds gs → AreGuessedBut place request gs es
guessed_but place (of_main action options names) ds es s u gs h =
    let w = but_where options.guess place ds es s u gs h in record { others = w.0; are = w.1; same = w.2 }
guessed_but place (compares first second) ds es s u gs h = record { others = es; are = refl; same = subst (λ xs. AreSameBut place xs es) (sym h) s }
guessed_but place (tries size) ds es s u gs h = record { others = es; are = refl; same = subst (λ xs. AreSameBut place xs es) (sym h) s }

-- ---- where guesses are asked for, and where they are not

pub guesses_some : (request : Request) → IsAllowed request → Guesses request → 0 < length (names_of request)
guesses_some (of_main action options names) h g = h.named.some
guesses_some (compares first second) h g = absurd g
guesses_some (tries size) h g = absurd g

pub guessed_so : (request : Request) (documents gs : List Parsed) → Guesses request → AreWithGuesses documents gs → AreGuessed request documents gs
guessed_so (of_main action options names) documents gs g h = subst (λ (b : Bool). AreGuessedWhere b documents gs) (sym g) h
guessed_so (compares first second) documents gs g h = absurd g
guessed_so (tries size) documents gs g h = absurd g

where_not : (guesses : Bool) (documents : List Parsed) → (guesses ≡ true → ⊥) → AreGuessedWhere guesses documents documents
where_not false documents n = refl
where_not true documents n = absurd (n refl)

pub guessed_not : (request : Request) (documents : List Parsed) → (Guesses request → ⊥) → AreGuessed request documents documents
guessed_not (of_main action options names) documents n = where_not options.guess documents n
guessed_not (compares first second) documents n = refl
guessed_not (tries size) documents n = refl

-- ---- document by document

module _ (kinds : List Entity) where
  abbrev guessed_as : Document → Parsed
  guessed_as d = with_guesses kinds (parsed_of d)

  both_maps : (docs : List Document) → map guessed_as docs ≡ map (with_guesses kinds) (map parsed_of docs)
  both_maps [] = refl
  both_maps (d ∷ docs) = ap (λ (ps : List Parsed). guessed_as d ∷ ps) (both_maps docs)

  -- what was guessed, and what is left, is all
  abbrev pub AreGuessedSoFar : List Document → List Document → List Document → Type 0
  AreGuessedSoFar docs so_far left = map parsed_of so_far ++ map guessed_as left ≡ map guessed_as docs

  pub one_more_guessed : (docs so_far new left rest : List Document) (d g : Document) → AreGuessedSoFar docs so_far left → left ≡ d ∷ rest →
      parsed_of g ≡ with_guesses kinds (parsed_of d) → new ≡ so_far ++ g ∷ [] → AreGuessedSoFar docs new rest
  one_more_guessed docs so_far new left rest d g h e same more =
      ap (λ (ds : List Document). map parsed_of ds ++ map guessed_as rest) more
      ∙ ap (λ (ps : List Parsed). ps ++ map guessed_as rest) (map-append parsed_of so_far (g ∷ []))
      ∙ append_assoc (map parsed_of so_far) (parsed_of g ∷ []) (map guessed_as rest)
      ∙ ap (λ (p : Parsed). map parsed_of so_far ++ p ∷ map guessed_as rest) same
      ∙ ap (λ (ds : List Document). map parsed_of so_far ++ map guessed_as ds) (sym e)
      ∙ h

  pub all_guessed : (docs so_far left : List Document) → AreGuessedSoFar docs so_far left → left ≡ [] → map parsed_of so_far ≡ map (with_guesses kinds) (map parsed_of docs)
  all_guessed docs so_far left h e =
      sym (append-nil (map parsed_of so_far)) ∙ ap (λ (ds : List Document). map parsed_of so_far ++ map guessed_as ds) (sym e) ∙ h ∙ both_maps docs

-- ---- what is concluded

pub guessed_conclusion : (request : Request) (documents gs : List Parsed) (outcome : Outcome) → HasImports request documents → AreGuessed request documents gs →
    IsAnswerBy request gs outcome → IsConclusion request documents outcome
guessed_conclusion request documents gs outcome imports are answer = record {
  concludes = misses_none imports gs are answer.answers;
  back = λ s. record { guessed = gs; are = are; back = answer.back s };
}

-- the documents are still as many as the names
pub guessed_each : (request : Request) (docs gs : List Document) (count : ℕ) → AreGuessed request (map parsed_of docs) (map parsed_of gs) → length docs ≡ count →
    length gs ≡ count
guessed_each request docs gs count h e =
    sym (length-map gs parsed_of) ∙ guessed_length request (map parsed_of docs) (map parsed_of gs) h ∙ length-map docs parsed_of ∙ e
