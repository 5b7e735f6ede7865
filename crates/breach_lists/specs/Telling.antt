-- What is told of parts that break rules.
use Rattle.std.specs.Prelude.{◌≡◌, List, Some, map, slice_get}
use Rattle.owl_breaches.specs.Sites.{Ontologies, Site}
use Rattle.owl_doc.specs.Closures.{ImportClosure}
use Rattle.owl_doc.specs.declared.item.Breach.{Breach}
use Rattle.owl_doc.specs.declared.rule.Rule.{Rule as Name}
use Rattle.owl_doc.specs.Documents.{Document, ontology_of}
use Rattle.owl_doc.specs.Entities.{IsHeldItem}
use Rattle.owl_doc.specs.Parts.{part_at}

-- the ontologies of a closure
abbrev pub ontologies_of : ImportClosure → Ontologies
ontologies_of closure = record { all = map ontology_of closure.documents; kinds = closure.kinds }

-- it tells of this rule, by its name, and of this part of the document in this place
pub record Tells {Rule : Type 0} (name : Rule → Name) (docs : List Document) (s : Site Rule) (b : Breach) : Type 0 where
  pub rule : b.rule ≡ name s.rule
  pub document : b.document ≡ s.place
  pub there : Document
  pub is : slice_get docs s.place ≡ Some there
  pub held : IsHeldItem there b.item
  pub part : part_at there b.item ≡ s.part
