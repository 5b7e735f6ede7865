-- Documents as they are kept.
use Rattle.std.specs.Prelude.{◌≡◌}
use Rattle.owl_doc.specs.declared.builder.Builder.TheInside as builder
use Rattle.owl_doc.specs.declared.document.Doc.TheInside as doc
use Rattle.owl_doc.specs.Documents.{Document, IsBegun, IsDocument, ontology_of, total_weight}
use Rattle.owl_doc.specs.Heads.{StandsBeside, head_of}
use Rattle.owl_tree.specs.Ontologies.{ontology_weight}

abbrev pub document_of : doc.Inside → Document
document_of d = record { arena = d.arena; prefixes = d.prefixes; head = head_of d.head; notes = d.notes.items; axioms = d.axioms.items }

-- a document, with its weight kept beside it, and a version only beside an IRI
pub record IsKept (d : doc.Inside) : Type 0 where
  pub document : IsDocument (document_of d)
  pub weight : d.weight ≡ ontology_weight (ontology_of (document_of d))
  pub version : StandsBeside d.head.version d.head.iri

abbrev pub begun_of : builder.Inside → Document
begun_of b = record { arena = b.arena; prefixes = b.prefixes; head = head_of b.head; notes = b.notes; axioms = b.axioms }

pub record IsKeptBegun (b : builder.Inside) : Type 0 where
  pub begun : IsBegun (begun_of b)
  pub weight : b.weight ≡ total_weight (begun_of b)
  pub version : StandsBeside b.head.version b.head.iri
