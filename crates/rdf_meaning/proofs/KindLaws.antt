-- An IRI has a kind exactly where the test says so, and no IRI of kinds without a clash has two opposed ones.
use lib.Utf8.{encode}
use Rattle.std.specs.Prelude.{◌≡◌, ◌↔◌, ℕ, Bool, true, not, ◌&&◌, List, [], ◌∷◌, Contains, codes, map}
use Rattle.std.specs.List.{list_all, list_any}
use Rattle.std.specs.Str.{bytes_eq}
use Rattle.std.proofs.Common.{inl, inr, refl, sym, subst}
use Rattle.std.proofs.lemmas.Bool.{and_from, and_parts, both_ways, not-true, or_cases, or_left, or_right}
use Rattle.std.proofs.lemmas.Slice.Eq.{bytes_eq-Decides}
use Rattle.owl_list.proofs.AscendingLaws.{in_cases, in_head, in_none, in_tail}
use Rattle.owl_characters.specs.Order.{text_eq}
use Rattle.rdf_terms.specs.Datatypes.{bare_row, binary_row, datatype_map, has, is_in_map, ordered_row, plain_row, text_facets, text_row}
use Rattle.rdf_terms.specs.Vocabulary.{owl}
use Rattle.owl_kind.specs.declared.kind.Kind.{Kind}
use Rattle.owl_kind.specs.declared.kind.Kind.TheVariants.{Class, Datatype, ObjectProperty, DataProperty, AnnotationProperty, Individual}
use Rattle.owl_kind.specs.Kinds.{Entity, HasKind, IsDeclared, SharesKinds, annotation_properties, is_built_in}
use Rattle.rdf_meaning.specs.Kinds.{HaveNoClash, has_kind, is_kind}

pub same_kind : (a b : Kind) → is_kind a b ≡ true → a ≡ b
same_kind Class Class h = refl
same_kind Datatype Datatype h = refl
same_kind ObjectProperty ObjectProperty h = refl
same_kind DataProperty DataProperty h = refl
same_kind AnnotationProperty AnnotationProperty h = refl
same_kind Individual Individual h = refl
same_kind _ _ h = cc

own_kind : (a : Kind) → is_kind a a ≡ true
own_kind Class = refl
own_kind _ = refl

abbrev is_entity : Kind → List ℕ → Entity → Bool
is_entity kind iri e = is_kind kind e.kind && bytes_eq e.iri iri

abbrev entity : Kind → List ℕ → Entity
entity kind iri = record { kind = kind; iri = iri }

same_entity : (kind : Kind) (iri : List ℕ) (e : Entity) → is_entity kind iri e ≡ true → e ≡ entity kind iri
same_entity kind iri e h =
    let parts = and_parts (is_kind kind e.kind) (bytes_eq e.iri iri) h in
    let k = sym (same_kind kind e.kind parts.0) in
    let i = (bytes_eq-Decides e.iri iri).0 parts.1 in
    λ j. entity (k j) (i j)

own_entity : (kind : Kind) (iri : List ℕ) → is_entity kind iri (entity kind iri) ≡ true
own_entity kind iri = and_from (is_kind kind kind) (bytes_eq iri iri) (own_kind kind) ((bytes_eq-Decides iri iri).1 refl)

declared : (kinds : List Entity) (kind : Kind) (iri : List ℕ) → list_any (is_entity kind iri) kinds ≡ true → IsDeclared kinds kind iri
declared [] kind iri h = cc
declared (e ∷ kinds) kind iri h =
    elim (or_cases (is_entity kind iri e) (list_any (is_entity kind iri) kinds) h) [
      | inl k ↦ subst (Contains (e ∷ kinds)) (same_entity kind iri e k) (in_head e kinds)
      | inr k ↦ in_tail e kinds (entity kind iri) (declared kinds kind iri k)
    ]

tested : (kinds : List Entity) (kind : Kind) (iri : List ℕ) → IsDeclared kinds kind iri → list_any (is_entity kind iri) kinds ≡ true
tested [] kind iri h = absurd (in_none (entity kind iri) h)
tested (e ∷ kinds) kind iri h =
    elim (in_cases e kinds (entity kind iri) h) [
      | inl k ↦
          or_left (is_entity kind iri e) (list_any (is_entity kind iri) kinds)
          (subst (λ (f : Entity). is_entity kind iri f ≡ true) (sym k) (own_entity kind iri))
      | inr k ↦ or_right (is_entity kind iri e) (list_any (is_entity kind iri) kinds) (tested kinds kind iri k)
    ]

of_kind : (kinds : List Entity) (kind : Kind) (iri : List ℕ) → has_kind kinds kind iri ≡ true → HasKind kinds kind iri
unfolding has_kind
of_kind kinds kind iri h =
    elim (or_cases (list_any (is_entity kind iri) kinds) (is_built_in kind iri) h) [ inl k ↦ inl (declared kinds kind iri k) | inr k ↦ inr k ]

has_it : (kinds : List Entity) (kind : Kind) (iri : List ℕ) → HasKind kinds kind iri → has_kind kinds kind iri ≡ true
unfolding has_kind
has_it kinds kind iri (inl k) = or_left (list_any (is_entity kind iri) kinds) (is_built_in kind iri) (tested kinds kind iri k)
has_it kinds kind iri (inr k) = or_right (list_any (is_entity kind iri) kinds) (is_built_in kind iri) k

pub has_kind_is : (kinds : List Entity) (kind : Kind) (iri : List ℕ) → (has_kind kinds kind iri ≡ true) ↔ HasKind kinds kind iri
has_kind_is kinds kind iri = (of_kind kinds kind iri, has_it kinds kind iri)

-- where a test passes none of the names, no text that it passes is one of them
none_passes : (names : List (List ℕ)) (test : List ℕ → Bool) → list_all (λ name. not (test name)) names ≡ true → (iri : List ℕ) → has names iri ≡ true → test iri ≡ true → ⊥
none_passes [] test h iri i t = cc
none_passes (name ∷ names) test h iri i t =
    let parts = and_parts (not (test name)) (list_all (λ other. not (test other)) names) h in
    elim (or_cases (text_eq name iri) (has names iri) i) [
      | inl e ↦ both_ways (test name) (not-true (test name) parts.0) (subst (λ n. test n ≡ true) (sym ((bytes_eq-Decides name iri).0 e)) t)
      | inr m ↦ none_passes names test parts.1 iri m t
    ]

-- nothing is built in as two kinds that no IRI may share

class_datatype : (iri : List ℕ) → is_built_in Class iri ≡ true → is_built_in Datatype iri ≡ true → ⊥
unfolding is_built_in is_in_map datatype_map ordered_row text_row text_facets plain_row binary_row bare_row encode
class_datatype iri = none_passes (map owl (codes "Thing" ∷ codes "Nothing" ∷ [])) (is_built_in Datatype) refl iri

object_data : (iri : List ℕ) → is_built_in ObjectProperty iri ≡ true → is_built_in DataProperty iri ≡ true → ⊥
unfolding is_built_in encode
object_data iri = none_passes (map owl (codes "topObjectProperty" ∷ codes "bottomObjectProperty" ∷ [])) (is_built_in DataProperty) refl iri

object_annotation : (iri : List ℕ) → is_built_in ObjectProperty iri ≡ true → is_built_in AnnotationProperty iri ≡ true → ⊥
unfolding is_built_in annotation_properties encode
object_annotation iri = none_passes (map owl (codes "topObjectProperty" ∷ codes "bottomObjectProperty" ∷ [])) (is_built_in AnnotationProperty) refl iri

data_annotation : (iri : List ℕ) → is_built_in DataProperty iri ≡ true → is_built_in AnnotationProperty iri ≡ true → ⊥
unfolding is_built_in annotation_properties encode
data_annotation iri = none_passes (map owl (codes "topDataProperty" ∷ codes "bottomDataProperty" ∷ [])) (is_built_in AnnotationProperty) refl iri

shared : (kinds : List Entity) → HaveNoClash kinds → (a b : Kind) (iri : List ℕ) → SharesKinds kinds iri → (is_built_in a iri ≡ true → is_built_in b iri ≡ true → ⊥) → HasKind kinds a iri → HasKind kinds b iri → ⊥
shared kinds none a b iri c apart (inl d) h = none iri (record { kind = a; declared = d; clash = c })
shared kinds none a b iri c apart (inr t) (inl d) = none iri (record { kind = b; declared = d; clash = c })
shared kinds none a b iri c apart (inr t) (inr u) = apart t u

-- so no IRI at all has, declared or not
pub no_shared : (kinds : List Entity) → HaveNoClash kinds → (iri : List ℕ) → SharesKinds kinds iri → ⊥
no_shared kinds none iri (inl b) = shared kinds none Class Datatype iri (inl b) (class_datatype iri) b.0 b.1
no_shared kinds none iri (inr (inl b)) = shared kinds none ObjectProperty DataProperty iri (inr (inl b)) (object_data iri) b.0 b.1
no_shared kinds none iri (inr (inr (inl b))) =
    shared kinds none ObjectProperty AnnotationProperty iri (inr (inr (inl b))) (object_annotation iri) b.0 b.1
no_shared kinds none iri (inr (inr (inr b))) =
    shared kinds none DataProperty AnnotationProperty iri (inr (inr (inr b))) (data_annotation iri) b.0 b.1
