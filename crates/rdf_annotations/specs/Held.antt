-- What stands in a store while annotations are put there.
use Rattle.std.specs.Prelude.{◌≡◌, IsTrue, List, ◌++◌, Contains, Some}
use Rattle.owl_kind.specs.Kinds.{Entity}
use Rattle.owl_tree.specs.declared.row.Sort.{Sort}
use Rattle.owl_tree.specs.declared.row.Sort.TheVariants as sort
use Rattle.owl_tree.specs.Trees.{Tree, leaf}
use Rattle.rdf_graph.specs.declared.term.Term.{Term}
use Rattle.rdf_graph.specs.declared.term.Term.TheVariants.{Iri}
use Rattle.rdf_graph.specs.declared.triple.Triple.{Triple}
use Rattle.rdf_meaning.specs.Denotation.{simple}
use Rattle.rdf_meaning.specs.Statements.{Annotates, AreSets as AreSetsIn, is_annotation_triple}
use Rattle.rdf_faults.specs.Asked.{IsTypedNote}
use Rattle.rdf_scans.specs.Sorts.{IsReading}
use Rattle.tree_stores.specs.Stores.{StandFor}
use Rattle.rdf_annotations.specs.declared.annotated.Annotated.{Annotated}
use Rattle.rdf_annotations.specs.declared.annotations.Said.{Said}
use Rattle.rdf_annotations.specs.declared.leaves.Leaf.{Leaf}
use Rattle.rdf_annotations.specs.Annotations.{AreVariants}
use Rattle.rdf_annotations.specs.Noters.{AreNoters}

-- each annotation names what it may
abbrev pub AreTypedNotes : List Triple → List Entity → Term → Type 0
AreTypedNotes g k header = (t : Triple) → Contains g t → IsTrue (is_annotation_triple g k header t) → IsTypedNote g k t

-- The graph is read, the numbers are those of the nodes by which its triples are annotated, and its annotations name what they may.
pub record IsAnnotated (annotated : Annotated) : Type 0 where
  pub reading : IsReading annotated.reading
  pub noters : AreNoters annotated.reading.graph.now annotated.reading.roles.now annotated.noters.now
  pub typed : AreTypedNotes annotated.reading.graph.now annotated.reading.kinds.now annotated.reading.header.now

-- the term stands for the leaf where a tree of the sort stands
abbrev pub IsLeafOf : List Triple → List Entity → Sort → Term → Leaf → Type 0
IsLeafOf g k s x l = simple g k s x ≡ Some (leaf l.tag l.atom)

-- the number stands for what the term does where a tree of the sort stands
pub record IsHeldAs {N : Type 0} (Stands : Tree → N → Type 0) (g : List Triple) (k : List Entity) (s : Sort) (x : Term) (n : N) : Type 0 where
  pub tree : Tree
  pub is : simple g k s x ≡ Some tree
  pub stands : Stands tree n

-- the numbers stand for the sets of annotations of the terms
pub record AreSetsOf {N : Type 0} (Stands : Tree → N → Type 0) (g : List Triple) (k : List Entity) (terms : List Term) (ns : List N) : Type 0 where
  pub sets : List Tree
  pub are : AreSetsIn g k terms sets
  pub stand : StandFor Stands sets ns

-- the numbers of the property, the value, and the sets of annotations that the triple says
pub record IsSaid {N : Type 0} (Stands : Tree → N → Type 0) (g : List Triple) (k : List Entity) (t : Triple) (said : Said N) : Type 0 where
  pub property : IsHeldAs Stands g k sort.AnnotationProperty (Iri t.predicate) said.property
  pub value : IsHeldAs Stands g k sort.AnnotationValue t.object said.value
  pub variants : AreVariants Stands g k t said.variants.items

-- the numbers of the annotations that triples say stand behind others
pub record AddsAnnotations {N : Type 0} (Old New : Tree → N → Type 0) (g : List Triple) (k : List Entity) (ts : List Triple) (old new : List N) : Type 0 where
  pub trees : List Tree
  pub annotates : Annotates g k ts trees
  pub stand : (before : List Tree) → StandFor Old before old → StandFor New (before ++ trees) new
