-- Which ontologies read back from their text, and as what bytes are read (Manchester Syntax, sections 2.1 to 2.6).
use Rattle.std.specs.Prelude.{◌≡◌, ℕ, List, map}
use Rattle.std.specs.List.{AllByRecursion}
use Rattle.man_grammar.specs.Documents.{ReadsManchester}
use Rattle.man_raw.specs.Documents.{DocumentTree}
use Rattle.man_resolve.specs.Expressions.{knows}
use Rattle.man_resolve.specs.Resolved.{FramesMean, HaveNoClash}
use Rattle.man_sayable.specs.Sayable.{CanSayAll}
use Rattle.owl_atom.specs.declared.prefixes.Prefix.{Prefix}
use Rattle.owl_doc.specs.Entities.{AreWellTyped, entities, entities_of}
use Rattle.owl_kind.specs.Kinds.{Entity}
use Rattle.owl_tree.specs.Ontologies.{Ontology, canonical_ontology}
use Rattle.owl_tree.specs.Trees.{kids_of}
use Rattle.owl_writing.specs.Tables.{as_declared}
use Rattle.man_text.specs.Blocks.{normal_form}
use Rattle.man_text.specs.Text.{manchester_prefixes}

-- Under these kinds all of the ontology can be said, and it is its own normal form.
pub record CanBeWritten (kinds : List Entity) (o : Ontology) : Type 0 where
  pub sayable : CanSayAll kinds o
  pub normal : canonical_ontology (normal_form (knows kinds) o) ≡ o

-- Under these kinds, which have no clash, all that it names is well typed.
pub record IsTypedUnder (kinds : List Entity) (o : Ontology) : Type 0 where
  pub no_clash : HaveNoClash kinds
  pub annotations : AreWellTyped kinds (entities_of (kids_of o.annotations))
  pub axioms : AllByRecursion (λ t. AreWellTyped kinds (entities t)) o.axioms

-- The bytes are a document with these prefixes, and under these kinds its frames mean the ontology.
pub record ReadsOntology (bytes : List ℕ) (kinds : List Entity) (table : List Prefix) (o : Ontology) : Type 0 where
  pub document : DocumentTree
  pub reads : ReadsManchester bytes document
  pub prefixes : document.prefixes ≡ map as_declared (manchester_prefixes table)
  pub means : FramesMean document kinds o
