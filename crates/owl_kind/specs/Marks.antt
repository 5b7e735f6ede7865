-- How the declarations of IRIs are kept: each IRI once, with a mark for each kind as which it is declared.
use Rattle.std.specs.Prelude.{◌≡◌, ℕ, Bool, false, true, ◌&&◌, ◌||◌, cond, List, [], ◌∷◌, Option, map, unwrap_or}
use Rattle.std.specs.List.{AllByRecursion, IsDistinct, filter, flat_map, reduce}
use Rattle.std.specs.Map.{keys_of, lookup, values_of}
use Rattle.std.specs.Ordering.{min_by_ordering}
use Rattle.owl_characters.specs.Order.{text_cmp, text_eq}
use Rattle.owl_kind.specs.declared.kind.Kind.{Kind}
use Rattle.owl_kind.specs.declared.kind.Kind.TheVariants.{Class, Datatype, ObjectProperty, DataProperty, AnnotationProperty, Individual}
use Rattle.owl_kind.specs.declared.marks.Marks.{Marks}
use Rattle.owl_kind.specs.Kinds.{Entity, is_built_in}
use Rattle.owl_kind.specs.Order.{entity_cmp}
use Rattle.owl_list.specs.Ascending.{ascending}

abbrev pub no_marks : Marks
no_marks = record {
  class = false;
  datatype = false;
  object_property = false;
  data_property = false;
  annotation_property = false;
  individual = false;
}

abbrev pub is_marked : Marks → Kind → Bool
is_marked marks Class = marks.class
is_marked marks Datatype = marks.datatype
is_marked marks ObjectProperty = marks.object_property
is_marked marks DataProperty = marks.data_property
is_marked marks AnnotationProperty = marks.annotation_property
is_marked marks Individual = marks.individual

-- the marks, and this one
abbrev pub marked : Marks → Kind → Marks
marked marks Class = record marks { class = true }
marked marks Datatype = record marks { datatype = true }
marked marks ObjectProperty = record marks { object_property = true }
marked marks DataProperty = record marks { data_property = true }
marked marks AnnotationProperty = record marks { annotation_property = true }
marked marks Individual = record marks { individual = true }

-- an IRI with its marks
abbrev pub Entry : Type 0
Entry = List ℕ × Marks

abbrev pub all_kinds : List Kind
all_kinds = Class ∷ Datatype ∷ ObjectProperty ∷ DataProperty ∷ AnnotationProperty ∷ Individual ∷ []

-- the IRI as this kind, where it is marked so
abbrev pub declared_as : Entry → Kind → List Entity
declared_as entry kind = cond (is_marked entry.1 kind) (record { kind = kind; iri = entry.0 } ∷ []) []

-- what the entries declare, entry by entry
unfoldable pub entities_of : List Entry → List Entity
entities_of entries = flat_map (λ entry. flat_map (declared_as entry) all_kinds) entries

-- what the entries declare: each entity once, in order
abbrev pub declared_by : List Entry → List Entity
declared_by entries = ascending entity_cmp (entities_of entries)

abbrev pub HasMark : Marks → Type 0
HasMark marks = (kind : Kind) × (is_marked marks kind ≡ true)

-- no IRI stands twice, and each has a mark
pub record IsTable (entries : List Entry) : Type 0 where
  pub distinct : IsDistinct text_eq (keys_of entries)
  pub marked : AllByRecursion HasMark (values_of entries)

-- the marks of an IRI, none where it has no entry
abbrev pub marks_at : List Entry → List ℕ → Marks
marks_at entries iri = unwrap_or (lookup (text_eq iri) entries) no_marks

-- an IRI with these marks is of the kind
abbrev pub is_of : Entry → Kind → Bool
is_of entry kind = is_marked entry.1 kind || is_built_in kind entry.0

abbrev pub is_of_both : Entry → Kind → Kind → Bool
is_of_both entry a b = is_of entry a && is_of entry b

-- an IRI with these marks has two kinds that no IRI may share
unfoldable pub clashes : Entry → Bool
clashes entry =
    is_of_both entry Class Datatype
    || is_of_both entry ObjectProperty DataProperty
    || is_of_both entry ObjectProperty AnnotationProperty
    || is_of_both entry DataProperty AnnotationProperty

-- the IRIs whose marks clash
abbrev pub clashing : List Entry → List (List ℕ)
clashing entries = map (λ entry. entry.0) (filter clashes entries)

abbrev pub lesser : List ℕ → List ℕ → List ℕ
lesser iri other = min_by_ordering (text_cmp iri other) iri other

-- the least IRI whose marks clash
abbrev pub least_that_clashes : List Entry → Option (List ℕ)
least_that_clashes entries = reduce lesser (clashing entries)
