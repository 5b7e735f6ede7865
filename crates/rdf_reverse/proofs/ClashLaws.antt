-- Where IRIs are declared as annotation properties that may be guessed, no clash comes and none goes.
use lib.Utf8.{encode}
use Rattle.std.specs.Prelude.{◌≡◌, ◌≢◌, ◌⊎◌, ◌↔◌, ℕ, Bool, true, false, not, ◌&&◌, ◌||◌, List, [], ◌∷◌, codes, map}
use Rattle.std.specs.List.{list_all}
use Rattle.std.specs.Str.{bytes_eq}
use Rattle.std.proofs.Common.{inl, inr, refl, sym, subst}
use Rattle.std.proofs.lemmas.Bool.{and_parts, both_ways, not-true, or_cases, or_left, or_right}
use Rattle.std.proofs.lemmas.Slice.Eq.{bytes_eq-Decides}
use Rattle.owl_characters.specs.Order.{text_eq}
use Rattle.owl_kind.specs.declared.kind.Kind.{Kind}
use Rattle.owl_kind.specs.declared.kind.Kind.TheVariants.{Class, Datatype, ObjectProperty, DataProperty, AnnotationProperty}
use Rattle.owl_kind.specs.Kinds.{Entity, HasBoth, HasClash, HasKind, IsDeclared, SharesKinds, is_built_in}
use Rattle.rdf_faults.specs.Faults.{is_property}
use Rattle.rdf_meaning.proofs.KindLaws.{has_kind_is}
use Rattle.rdf_meaning.specs.Kinds.{has_kind}
use Rattle.rdf_terms.specs.Datatypes.{has}
use Rattle.rdf_terms.specs.Vocabulary.{is_reserved, owl}
use Rattle.rdf_reverse.specs.Guesses.{AddsGuesses, may_be_guessed}

-- where a test passes all of the names, it passes what is one of them
one_passes : (names : List (List ℕ)) (test : List ℕ → Bool) → list_all test names ≡ true → (iri : List ℕ) → has names iri ≡ true → test iri ≡ true
one_passes [] test h iri i = cc
one_passes (name ∷ names) test h iri i =
    let parts = and_parts (test name) (list_all test names) h in
    elim (or_cases (text_eq name iri) (has names iri) i) [
      | inl e ↦ subst (λ n. test n ≡ true) ((bytes_eq-Decides name iri).0 e) parts.0
      | inr m ↦ one_passes names test parts.1 iri m
    ]

-- a class that is built in is reserved
class_reserved : (iri : List ℕ) → is_built_in Class iri ≡ true → is_reserved iri ≡ true
unfolding is_built_in is_reserved encode
class_reserved iri = one_passes (map owl (codes "Thing" ∷ codes "Nothing" ∷ [])) is_reserved refl iri

module _ (kinds : List Entity) (iri : List ℕ) (guessed : may_be_guessed kinds iri ≡ true) where
  parts : (not (is_reserved iri) ≡ true) × (not (is_property kinds iri) ≡ true)
  parts = and_parts (not (is_reserved iri)) (not (is_property kinds iri)) guessed

  no_property : is_property kinds iri ≡ true → ⊥
  no_property h = both_ways (is_property kinds iri) (not-true (is_property kinds iri) parts.1) h

  abbrev is_object : Bool
  is_object = has_kind kinds ObjectProperty iri

  abbrev is_data : Bool
  is_data = has_kind kinds DataProperty iri

  abbrev is_annotation : Bool
  is_annotation = has_kind kinds AnnotationProperty iri

  no_object : HasKind kinds ObjectProperty iri → ⊥
  no_object h = no_property (or_left (is_object || is_data) is_annotation (or_left is_object is_data ((has_kind_is kinds ObjectProperty iri).1 h)))

  no_data : HasKind kinds DataProperty iri → ⊥
  no_data h = no_property (or_left (is_object || is_data) is_annotation (or_right is_object is_data ((has_kind_is kinds DataProperty iri).1 h)))

  class_declared : HasKind kinds Class iri → IsDeclared kinds Class iri
  class_declared (inl d) = d
  class_declared (inr b) = absurd (both_ways (is_reserved iri) (not-true (is_reserved iri) parts.0) (class_reserved iri b))

module _ (kinds more : List Entity) (adds : AddsGuesses kinds more) (iri : List ℕ) where
  kept : (kind : Kind) → HasKind kinds kind iri → HasKind more kind iri
  kept kind (inl d) = inl (adds.kept kind iri d)
  kept kind (inr b) = inr b

  both_kept : (a b : Kind) → HasBoth kinds a b iri → HasBoth more a b iri
  both_kept a b h = (kept a h.0, kept b h.1)

  shares_kept : SharesKinds kinds iri → SharesKinds more iri
  shares_kept (inl h) = inl (both_kept Class Datatype h)
  shares_kept (inr (inl h)) = inr (inl (both_kept ObjectProperty DataProperty h))
  shares_kept (inr (inr (inl h))) = inr (inr (inl (both_kept ObjectProperty AnnotationProperty h)))
  shares_kept (inr (inr (inr h))) = inr (inr (inr (both_kept DataProperty AnnotationProperty h)))

  -- a kind that nothing is guessed to be was there
  before : (kind : Kind) → (kind ≡ AnnotationProperty → ⊥) → HasKind more kind iri → HasKind kinds kind iri
  before kind other (inl d) = elim (adds.added kind iri d) [ inl h ↦ inl h | inr h ↦ absurd (other h.0) ]
  before kind other (inr b) = inr b

  abbrev IsGuess : Type 0
  IsGuess = may_be_guessed kinds iri ≡ true

  annotation_before : HasKind more AnnotationProperty iri → HasKind kinds AnnotationProperty iri ⊎ IsGuess
  annotation_before (inl d) = elim (adds.added AnnotationProperty iri d) [ inl h ↦ inl (inl h) | inr h ↦ inr h.1 ]
  annotation_before (inr b) = inl (inr b)

  -- what is declared was declared, or is guessed
  declared_before : (kind : Kind) → IsDeclared more kind iri → IsDeclared kinds kind iri ⊎ IsGuess
  declared_before kind d = elim (adds.added kind iri d) [ inl h ↦ inl h | inr h ↦ inr h.1 ]

  clash_by : (kind : Kind) → SharesKinds kinds iri → (IsGuess → (other : Kind) × IsDeclared kinds other iri) → IsDeclared kinds kind iri ⊎ IsGuess → HasClash kinds iri
  clash_by kind shares other (inl d) = record { kind = kind; declared = d; clash = shares }
  clash_by kind shares other (inr g) = let o = other g in record { kind = o.0; declared = o.1; clash = shares }

  clashed : (kind : Kind) → IsDeclared more kind iri → SharesKinds more iri → HasClash kinds iri
  clashed kind d (inl h) =
      let class = before Class (λ e. cc) h.0 in
      clash_by kind (inl (class, before Datatype (λ e. cc) h.1)) (λ g. (Class, class_declared kinds iri g class)) (declared_before kind d)
  clashed kind d (inr (inl h)) =
      let object = before ObjectProperty (λ e. cc) h.0 in
      clash_by kind (inr (inl (object, before DataProperty (λ e. cc) h.1))) (λ g. absurd (no_object kinds iri g object)) (declared_before kind d)
  clashed kind d (inr (inr (inl h))) =
      let object = before ObjectProperty (λ e. cc) h.0 in
      elim (annotation_before h.1) [
        | inl a ↦ clash_by kind (inr (inr (inl (object, a)))) (λ g. absurd (no_object kinds iri g object)) (declared_before kind d)
        | inr g ↦ absurd (no_object kinds iri g object)
      ]
  clashed kind d (inr (inr (inr h))) =
      let property = before DataProperty (λ e. cc) h.0 in
      elim (annotation_before h.1) [
        | inl a ↦ clash_by kind (inr (inr (inr (property, a)))) (λ g. absurd (no_data kinds iri g property)) (declared_before kind d)
        | inr g ↦ absurd (no_data kinds iri g property)
      ]

  pub clash_same : HasClash more iri ↔ HasClash kinds iri
  clash_same = (
    λ h. clashed h.kind h.declared h.clash,
    λ h. record { kind = h.kind; declared = adds.kept h.kind iri h.declared; clash = shares_kept h.clash },
  )
