-- Guesses of documents that were read make no clash.
use Rattle.std.specs.Prelude.{◌≡◌, ◌⊎◌, ◌↔◌, ℕ, true, List, [], ◌∷◌, ◌++◌, Contains, Option, None, Some, filter, length, map, ◌+◌, slice_get}
use Rattle.std.specs.Option.{option_map}
use Rattle.std.specs.declared.cmp.Ordering.TheVariants.{Less}
use Rattle.std.proofs.Common.{inl, inr, zero, suc, refl, sym, ap, ◌∙◌, subst, arith}
use Rattle.std.proofs.lemmas.List.Elements.{Contains-append_cases, Contains-append_left, Contains-append_right}
use Rattle.std.proofs.lemmas.Option.{same_Some, slice_get-map}
use Rattle.owl_characters.specs.Order.{text_cmp}
use Rattle.owl_characters.specs.OrderLaws.{same_texts, texts_total}
use Rattle.owl_command.specs.Commands.{Source}
use Rattle.owl_documents.specs.Documents.{AreRead, AreReadFrom, Contents, DeclaresAs, GraphRead, Parsed, Reads, a_graph, an_ontology, guessed_entities, the_frames}
use Rattle.owl_kind.specs.declared.kind.Kind.{Kind}
use Rattle.owl_kind.specs.declared.kind.Kind.TheVariants.{AnnotationProperty}
use Rattle.owl_kind.specs.Kinds.{Entity, HasClash, IsDeclared, IsFirstClash}
use Rattle.owl_list.proofs.AscendingLaws.{ascending_holds, in_cases, in_none}
use Rattle.owl_list.proofs.FilterLaws.{from_filter}
use Rattle.owl_close.specs.Imports.{Reaches}
use Rattle.rdf_graph.specs.declared.triple.Triple.{Triple}
use Rattle.rdf_reverse.proofs.ClashLaws.{clash_same}
use Rattle.rdf_reverse.specs.Guesses.{AddsGuesses, guessed, may_be_guessed}
use Rattle.rdf_scans.specs.Outlines.{declarations}
use Rattle.rdf_thin.specs.Thinned.{thinned}
use Rattle.owl_answer.specs.Guessing.{AreWithGuesses, with_guesses}
use Rattle.owl_answer.specs.KindsAt.{AreClosureKinds}
use Rattle.owl_answer.specs.Outcome.{heads_in}
use Rattle.owl_answer.proofs.Closures.{closure_once}
use Rattle.owl_answer.proofs.GuessedDocuments.{with_heads}

-- ---- nothing is guessed of what is read

abbrev NoneGuessed : Parsed → Type 0
NoneGuessed (an_ontology written said) = Unit {0}
NoneGuessed (a_graph read) = read.guessed ≡ []
NoneGuessed (the_frames d) = Unit {0}

reads_none : (base : Option (List ℕ)) (name bytes : List ℕ) (parsed : Parsed) → Reads base name bytes parsed → NoneGuessed parsed
reads_none base name bytes (an_ontology written said) h = tt
reads_none base name bytes (a_graph read) h = h.1.none_guessed
reads_none base name bytes (the_frames d) h = tt

read_none : (contents : Contents) (before : ℕ) (sources : List Source) (documents : List Parsed) (after : ℕ) → AreReadFrom contents before sources documents after →
    (place : ℕ) (parsed : Parsed) → slice_get documents place ≡ Some parsed → NoneGuessed parsed
read_none contents before [] [] after h place parsed e = cc
read_none contents before [] (d ∷ documents) after h place parsed e = absurd h
read_none contents before (s ∷ sources) [] after h place parsed e = absurd h
read_none contents before (s ∷ sources) (d ∷ documents) after h zero parsed e =
    subst NoneGuessed (same_Some d parsed e) (reads_none s.base s.name h.0 d h.1.reads)
read_none contents before (s ∷ sources) (d ∷ documents) after h (suc place) parsed e = read_none contents (before + length h.0) sources documents after h.2 place parsed e

-- ---- what a document declares with its guesses

abbrev entity : Kind → List ℕ → Entity
entity kind iri = record { kind = kind; iri = iri }

guessed_entity : (names : List (List ℕ)) (kind : Kind) (iri : List ℕ) → Contains (guessed_entities names) (entity kind iri) →
    (kind ≡ AnnotationProperty) × Contains names iri
guessed_entity [] kind iri m = absurd (in_none (entity kind iri) m)
guessed_entity (name ∷ names) kind iri m =
    elim (in_cases (entity AnnotationProperty name) (guessed_entities names) (entity kind iri) m) [
      | inl e ↦ (sym (ap (λ (x : Entity). x.kind) e), inl_of name names iri (ap (λ (x : Entity). x.iri) e))
      | inr n ↦ let more = guessed_entity names kind iri n in (more.0, later name names iri more.1)
    ]
  where
    inl_of : (x : List ℕ) (xs : List (List ℕ)) (y : List ℕ) → x ≡ y → Contains (x ∷ xs) y
    inl_of x xs y e = (0, omega arith, e)

    later : (x : List ℕ) (xs : List (List ℕ)) (y : List ℕ) → Contains xs y → Contains (x ∷ xs) y
    later x xs y m = Contains-append_right (x ∷ []) xs y m

module _ (kinds : List Entity) where
  declares_with : (parsed : Parsed) → NoneGuessed parsed → (kind : Kind) (iri : List ℕ) → DeclaresAs parsed kind iri → DeclaresAs (with_guesses kinds parsed) kind iri
  declares_with (an_ontology written said) none kind iri h = h
  declares_with (the_frames d) none kind iri h = h
  declares_with (a_graph read) none kind iri h =
      elim (Contains-append_cases (declarations read.triples) (guessed_entities read.guessed) (entity kind iri) h) [
        | inl m ↦ Contains-append_left (declarations read.triples) (guessed_entities (guessed (thinned read.triples) kinds)) (entity kind iri) m
        | inr m ↦ absurd (in_none (entity kind iri) (subst (λ (names : List (List ℕ)). Contains (guessed_entities names) (entity kind iri)) none m))
      ]

  passes : (g : List Triple) (iri : List ℕ) → Contains (guessed g kinds) iri → may_be_guessed kinds iri ≡ true
  passes g iri m =
      let all = map (λ (t : Triple). t.predicate) g in
      (from_filter (may_be_guessed kinds) all iri ((ascending_holds text_cmp texts_total same_texts (filter (may_be_guessed kinds) all) iri).0 m)).passes

  declares_from : (parsed : Parsed) (kind : Kind) (iri : List ℕ) → DeclaresAs (with_guesses kinds parsed) kind iri →
      DeclaresAs parsed kind iri ⊎ ((kind ≡ AnnotationProperty) × (may_be_guessed kinds iri ≡ true))
  declares_from (an_ontology written said) kind iri h = inl h
  declares_from (the_frames d) kind iri h = inl h
  declares_from (a_graph read) kind iri h =
      let names = guessed (thinned read.triples) kinds in
      elim (Contains-append_cases (declarations read.triples) (guessed_entities names) (entity kind iri) h) [
        | inl m ↦ inl (Contains-append_left (declarations read.triples) (guessed_entities read.guessed) (entity kind iri) m)
        | inr m ↦ let g = guessed_entity names kind iri m in inr (g.0, passes (thinned read.triples) iri g.1)
      ]

-- ---- the closure

at_map : (f : Parsed → Parsed) (o : Option Parsed) (p : Parsed) → option_map f o ≡ Some p → (q : Parsed) × (o ≡ Some q) × (f q ≡ p)
at_map f None p e = cc
at_map f (Some q) p e = (q, refl, same_Some (f q) p e)

module _ (documents guesses : List Parsed) (kinds more : List Entity) (with : AreWithGuesses documents guesses) (declared : AreClosureKinds documents kinds)
    (again : AreClosureKinds guesses more) (none : (place : ℕ) (parsed : Parsed) → slice_get documents place ≡ Some parsed → NoneGuessed parsed) where
  same_kinds : with.kinds ≡ kinds
  same_kinds = closure_once documents with.kinds kinds with.declared declared

  are : guesses ≡ map (with_guesses kinds) documents
  are = with.are ∙ ap (λ (ks : List Entity). map (with_guesses ks) documents) same_kinds

  heads : heads_in guesses ≡ heads_in documents
  heads = with_heads documents guesses with

  stands : (place : ℕ) (parsed : Parsed) → slice_get documents place ≡ Some parsed → slice_get guesses place ≡ Some (with_guesses kinds parsed)
  stands place parsed e =
      ap (λ (ds : List Parsed). slice_get ds place) are ∙ slice_get-map (with_guesses kinds) documents place ∙ ap (option_map (with_guesses kinds)) e

  stood : (place : ℕ) (parsed : Parsed) → slice_get guesses place ≡ Some parsed → (q : Parsed) × (slice_get documents place ≡ Some q) × (with_guesses kinds q ≡ parsed)
  stood place parsed e =
      at_map (with_guesses kinds) (slice_get documents place) parsed
      (sym (slice_get-map (with_guesses kinds) documents place) ∙ sym (ap (λ (ds : List Parsed). slice_get ds place) are) ∙ e)

  adds : AddsGuesses kinds more
  adds = record {
    kept = λ kind iri h.
        let d = (declared.declared kind iri).0 h in
        (again.declared kind iri).1 (record {
          place = d.place;
          reached = subst (λ hs. Reaches hs d.place) (sym heads) d.reached;
          at = record {
            parsed = with_guesses kinds d.at.parsed;
            there = stands d.place d.at.parsed d.at.there;
            declares = declares_with kinds d.at.parsed (none d.place d.at.parsed d.at.there) kind iri d.at.declares;
          };
        });
    added = λ kind iri h.
        let d = (again.declared kind iri).0 h in
        let q = stood d.place d.at.parsed d.at.there in
        elim (declares_from kinds q.0 kind iri (subst (λ (p : Parsed). DeclaresAs p kind iri) (sym q.2) d.at.declares)) [
          | inl own ↦
              inl ((declared.declared kind iri).1 (record {
                place = d.place;
                reached = subst (λ hs. Reaches hs d.place) heads d.reached;
                at = record { parsed = q.0; there = q.1; declares = own };
              }))
          | inr g ↦ inr g
        ];
  }

  first_there : (iri : List ℕ) → IsFirstClash more iri → IsFirstClash kinds iri
  first_there iri h = record {
    clash = (clash_same kinds more adds iri).0 h.clash;
    first = λ other c l. h.first other ((clash_same kinds more adds other).1 c) l;
  }

  first_back : (iri : List ℕ) → IsFirstClash kinds iri → IsFirstClash more iri
  first_back iri h = record {
    clash = (clash_same kinds more adds iri).1 h.clash;
    first = λ other c l. h.first other ((clash_same kinds more adds other).0 c) l;
  }

pub guesses_clash_alike : (contents : Contents) (sources : List Source) (documents guesses : List Parsed) (kinds more : List Entity) → AreRead contents sources documents →
    AreWithGuesses documents guesses → AreClosureKinds documents kinds → AreClosureKinds guesses more → (iri : List ℕ) → IsFirstClash more iri ↔ IsFirstClash kinds iri
guesses_clash_alike contents sources documents guesses kinds more read with declared again iri =
    let none = read_none contents 0 sources documents read.0 read.1 in (
      first_there documents guesses kinds more with declared again none iri,
      first_back documents guesses kinds more with declared again none iri,
    )
