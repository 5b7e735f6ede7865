-- Which parts of an ontology are well typed (Structural Specification, section 5.8.1).
use Rattle.std.specs.Prelude.{◌↔◌, ℕ, List, Option, None, Some}
use Rattle.std.specs.List.{AllByRecursion}
use Rattle.owl_doc.specs.Documents.{Document}
use Rattle.owl_doc.specs.Entities.{AreWellTyped, IsFirstUndeclared, IsHeldItem}
use Rattle.owl_kind.specs.declared.kind.Kind.{Kind}
use Rattle.owl_kind.specs.Kinds.{Entity, IsDeclared}
use Rattle.owl_tree.specs.Ontologies.{Ontology}
use Rattle.owl_doc.specs.Parts.{IsFirstWithout, Part, part_at, part_entities, parts_of}
use Rattle.owl_answer.specs.declared.typing.Untyped.{Untyped}

-- each class, datatype and property in the part is declared or built in
abbrev pub IsWellTyped : List Entity → Part → Type 0
IsWellTyped kinds part = AreWellTyped kinds (part_entities part)

-- so it is in each part of the ontology
abbrev pub AllAreWellTyped : List Entity → Ontology → Type 0
AllAreWellTyped kinds o = AllByRecursion (IsWellTyped kinds) (parts_of o)

-- the first of these parts that is not well typed, and the first entity in it that is neither declared nor built in
pub record IsUndeclaredIn (kinds : List Entity) (parts : List Part) (part : Part) (e : Entity) : Type 0 where
  pub first : IsFirstWithout (IsWellTyped kinds) parts part
  pub entity : IsFirstUndeclared kinds (part_entities part) e

-- the first part of the ontology that is not well typed, its header before its axioms in canonical order
abbrev pub IsFirstUntyped : List Entity → Ontology → Part → Entity → Type 0
IsFirstUntyped kinds o part e = IsUndeclaredIn kinds (parts_of o) part e

-- the entity that the code has
abbrev pub entity_found : Untyped → Entity
entity_found found = record { kind = found.kind; iri = found.iri.now }

-- what a search for the first of these parts of a document finds
abbrev pub FindsUntyped : List Entity → Document → List Part → Option Untyped → Type 0
FindsUntyped kinds d parts None = AllByRecursion (IsWellTyped kinds) parts
FindsUntyped kinds d parts (Some found) = IsHeldItem d found.item × IsUndeclaredIn kinds parts (part_at d found.item) (entity_found found)

-- the same is declared
abbrev pub DeclareSame : List Entity → List Entity → Type 0
DeclareSame kinds others = (kind : Kind) (iri : List ℕ) → IsDeclared kinds kind iri ↔ IsDeclared others kind iri
