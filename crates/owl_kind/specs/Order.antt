-- Entities in order, by IRI and then by kind.
use Rattle.std.specs.Prelude.{ℕ, List}
use Rattle.std.specs.declared.cmp.Ordering.{Ordering}
use Rattle.std.specs.Ordering.{nat_cmp, on, then_cmp}
use Rattle.owl_characters.specs.Order.{text_cmp}
use Rattle.owl_kind.specs.declared.kind.Kind.{Kind}
use Rattle.owl_kind.specs.declared.kind.Kind.TheVariants.{Class, Datatype, ObjectProperty, DataProperty, AnnotationProperty, Individual}
use Rattle.owl_kind.specs.Kinds.{Entity}
use Rattle.owl_list.specs.Ascending.{IsAscending}

abbrev pub kind_number : Kind → ℕ
kind_number Class = 0
kind_number Datatype = 1
kind_number ObjectProperty = 2
kind_number DataProperty = 3
kind_number AnnotationProperty = 4
kind_number Individual = 5

abbrev pub entity_cmp : Entity → Entity → Ordering
entity_cmp = then_cmp (on (λ e. e.iri) text_cmp) (on (λ e. kind_number e.kind) nat_cmp)

-- each entity once, in order
abbrev pub AreOrdered : List Entity → Type 0
AreOrdered = IsAscending entity_cmp
