-- What an ontology is whose graph states it.
use Rattle.std.specs.Prelude.{◌≡◌, ◌≤◌, ◌+◌, ◌*◌, ◌^◌, false, List, length}
use Rattle.std.specs.List.{AllByRecursion}
use Rattle.owl_doc.specs.Entities.{AreWellTyped, entities, entities_of}
use Rattle.owl_doc.specs.Heads.{iri_in}
use Rattle.owl_kind.specs.Kinds.{Entity}
use Rattle.owl_tree.specs.declared.tag.Tag.{Tag}
use Rattle.owl_tree.specs.declared.tag.Tag.TheVariants as tag
use Rattle.owl_tree.specs.Ontologies.{IsOntology, Ontology}
use Rattle.owl_tree.specs.Trees.{Tree, Kids, node, kid, kids_of}
use Rattle.rdf_meaning.specs.Kinds.{HaveNoClash}
use Rattle.rdf_normal.specs.NormalForms.{is_about, normal_form, tidied}
use Rattle.rdf_sayable.specs.Sayable.{CanSayAll}
use Rattle.rdf_mapping.specs.GraphEntries.{made_nodes}
use Rattle.rdf_mapping.specs.Graphs.{labels_of}
use Rattle.rdf_axioms.specs.AxiomReading.{IsSayableAxiom}
use Rattle.rdf_states.specs.Annotations.{AreAnnotations}

-- An ontology that is its own normal form, of which all is well typed under these kinds and can be said in RDF, with no more labels and
-- other blank nodes in its graph than there are fresh labels that are known to differ.
pub record CanBeDrawn (k : List Entity) (o : Ontology) : Type 0 where
  pub is_ontology : IsOntology o
  pub normal : normal_form o ≡ o
  pub sayable : CanSayAll o
  pub typed_annotations : AreWellTyped k (entities_of (kids_of o.annotations))
  pub typed_axioms : AllByRecursion (λ t. AreWellTyped k (entities t)) o.axioms
  pub few : made_nodes o + length (labels_of o) ≤ 9 * 10 ^ 18

-- such an ontology, under kinds without a clash
pub record CanBeStated (k : List Entity) (o : Ontology) : Type 0 where
  pub no_clash : HaveNoClash k
  pub can_be_drawn : CanBeDrawn k o

-- an axiom with its annotations as its first kid
pub record IsAxiomTree (a : Tree) : Type 0 where
  pub own_tag : Tag
  pub notes : Kids
  pub kids : Kids
  pub is : a ≡ node own_tag (kid (node tag.Notes notes) kids)
  pub annotations : AreAnnotations notes

-- what is known of each axiom of such an ontology: it can be said, nothing in it is needless, and it is about no ontology
pub record IsStatedAxiom (k : List Entity) (o : Ontology) (a : Tree) : Type 0 where
  pub sayable : IsSayableAxiom k a
  pub tidy : tidied a ≡ a
  pub other : is_about (iri_in o.head.name) a ≡ false
  pub tree : IsAxiomTree a
