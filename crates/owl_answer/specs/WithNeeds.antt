-- A main document with the declarations that it needs.
use Rattle.std.specs.Prelude.{List}
use Rattle.owl_declare.specs.Needed.{AreNeeded, with_needs}
use Rattle.owl_doc.specs.Entities.{AddsAll}
use Rattle.owl_documents.specs.Documents.{Said}
use Rattle.owl_kind.specs.Kinds.{Entity}
use Rattle.owl_kind.specs.Order.{AreOrdered}
use Rattle.owl_tree.specs.Ontologies.{canonical_ontology}

-- the document with these declarations too, in canonical form
abbrev pub declared_said : List Entity → Said → Said
declared_said needs main = record { prefixes = main.prefixes; ontology = canonical_ontology (with_needs needs main.ontology) }

-- what the document needs and these kinds lack, and the kinds that have it too, in order
pub record AreKnown (kinds : List Entity) (main : Said) (needs known : List Entity) : Type 0 where
  pub needed : AreNeeded kinds main.ontology needs
  pub adds : AddsAll kinds needs known
  pub ordered : AreOrdered known
