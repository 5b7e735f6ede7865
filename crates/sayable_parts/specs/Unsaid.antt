-- The parts of an ontology that a syntax can't say. A syntax is given by what is to be said first against each part: nothing where it
-- can say the part.
use Rattle.std.specs.Prelude.{◌≡◌, List, Option, None, Some}
use Rattle.std.specs.List.{AllByRecursion}
use Rattle.owl_doc.specs.declared.item.Cant.{Cant}
use Rattle.owl_doc.specs.Documents.{Document}
use Rattle.owl_doc.specs.Entities.{IsHeldItem}
use Rattle.owl_doc.specs.Parts.{IsFirstWithout, Part, part_at, parts_of}
use Rattle.owl_tree.specs.Ontologies.{Ontology}
use Rattle.sayable_parts.specs.Reasons.{Objection, why_seen}

-- the syntax can say the part
abbrev pub Says : (Part → Option Objection) → Part → Type 0
Says objection part = objection part ≡ None

-- it can say all of the ontology
abbrev pub SaysAll : (Part → Option Objection) → Ontology → Type 0
SaysAll objection o = AllByRecursion (Says objection) (parts_of o)

-- the first of these parts that it can't say, and what is to be said first against it
pub record IsFirstUnsaidOf (objection : Part → Option Objection) (parts : List Part) (part : Part) (why : Objection) : Type 0 where
  pub first : IsFirstWithout (Says objection) parts part
  pub told : objection part ≡ Some why

-- the first part of the ontology that it can't say, its header before its axioms in canonical order
abbrev pub IsFirstUnsaid : (Part → Option Objection) → Ontology → Part → Objection → Type 0
IsFirstUnsaid objection o part why = IsFirstUnsaidOf objection (parts_of o) part why

-- what a search for the first of these parts of a document finds
abbrev pub FindsUnsaid : (Part → Option Objection) → Document → List Part → Option Cant → Type 0
FindsUnsaid objection d parts None = AllByRecursion (Says objection) parts
FindsUnsaid objection d parts (Some cant) = IsHeldItem d cant.item × IsFirstUnsaidOf objection parts (part_at d cant.item) (why_seen cant.why)
