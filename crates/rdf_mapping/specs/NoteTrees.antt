-- Annotations as trees, beside what is drawn of them.
use Rattle.std.specs.Prelude.{◌≡◌, ℕ, List, [], ◌∷◌, Some, map}
use Rattle.owl_kind.specs.Kinds.{Entity}
use Rattle.owl_tree.specs.declared.row.Sort.TheVariants as sort
use Rattle.owl_tree.specs.declared.tag.Tag.TheVariants as tag
use Rattle.owl_tree.specs.Ontologies.{HoldEquivalent}
use Rattle.owl_tree.specs.Trees.{Tree, Kids, leaf, node, no_kids, kid, kids_of}
use Rattle.owl_tree.specs.declared.atom.Atom.{Atom}
use Rattle.owl_tree.specs.declared.atom.Atom.TheVariants as atom
use Rattle.owl_tree.specs.declared.tag.Tag.{Tag}
use Rattle.rdf_mapping.specs.Drawing.{atom_term}
use Rattle.rdf_graph.specs.declared.term.Term.{Term}
use Rattle.rdf_graph.specs.declared.term.Term.TheVariants.{Iri}
use Rattle.rdf_graph.specs.declared.triple.Triple.{Triple}
use Rattle.rdf_meaning.specs.Denotation.{simple}
use Rattle.rdf_meaning.specs.Statements.{Annotates, Variants, notes}
use Rattle.rdf_mapping.specs.Notes.{Notes, no_notes, note}

-- the annotation of this property and value, with a set of its own
abbrev pub annotation : Tree → Tree → Tree → Tree
annotation p v set = node tag.Annotation (kids_of (set ∷ p ∷ v ∷ []))

-- The trees are annotations that are drawn so, and their properties and values are read back.
pub data AreNotes (g : List Triple) (k : List Entity) : List Tree → Notes → Type 0 where
  none : AreNotes g k [] no_notes
  one : (p : List ℕ) (v : Term) (property value : Tree) (ts us : List Tree) (inside more : Notes) →
      simple g k sort.AnnotationProperty (Iri p) ≡ Some property → simple g k sort.AnnotationValue v ≡ Some value →
      AreNotes g k ts inside → AreNotes g k us more → AreNotes g k (annotation property value (notes ts) ∷ us) (note p v inside more)

-- The kids are annotations whose properties and values are read back.
pub data AreReadable (g : List Triple) (k : List Entity) : Kids → Type 0 where
  no_annotation : AreReadable g k no_kids
  an_annotation : (p : List ℕ) (v : Atom) (property value : Tag) (ns ks : Kids) →
      simple g k sort.AnnotationProperty (Iri p) ≡ Some (leaf property (atom.Iri p)) →
      simple g k sort.AnnotationValue (atom_term v) ≡ Some (leaf value v) → AreReadable g k ns → AreReadable g k ks →
      AreReadable g k
      (kid (node tag.Annotation (kid (node tag.Notes ns) (kid (leaf property (atom.Iri p)) (kid (leaf value v) no_kids)))) ks)

-- the annotation is among these
pub data IsAmong (p : List ℕ) (v : Term) (inside : Notes) : Notes → Type 0 where
  here : (more : Notes) → IsAmong p v inside (note p v inside more)
  later : (q : List ℕ) (w : Term) (other more : Notes) → IsAmong p v inside more → IsAmong p v inside (note q w other more)

-- no annotation without annotations of its own stands beside one that has some, and has the same property and value
abbrev pub AreSettled : Notes → Type 0
AreSettled ns =
    (p : List ℕ) (v : Term) (inside : Notes) → IsAmong p v no_notes ns → IsAmong p v inside ns → inside ≡ no_notes

-- and so it is with the annotations of each
abbrev pub EachSettled : Notes → Type 0
EachSettled no_notes = Unit {0}
EachSettled (note p v inside more) = (AreSettled inside × EachSettled inside) × EachSettled more

-- the triples say these annotations
pub record AreReadAs (g : List Triple) (k : List Entity) (xs : List Triple) (ts : List Tree) : Type 0 where
  pub trees : List Tree
  pub annotates : Annotates g k xs trees
  pub same : HoldEquivalent ts trees

-- The sets of annotations are drawn so.
pub data AreAllNotes (g : List Triple) (k : List Entity) : List (List Tree) → List Notes → Type 0 where
  no_sets : AreAllNotes g k [] []
  a_set : (ts : List Tree) (ns : Notes) (tss : List (List Tree)) (nss : List Notes) → AreNotes g k ts ns → AreSettled ns →
      EachSettled ns → AreAllNotes g k tss nss → AreAllNotes g k (ts ∷ tss) (ns ∷ nss)

-- the triple has these sets of annotations
pub record AreVariants (g : List Triple) (k : List Entity) (t : Triple) (tss : List (List Tree)) : Type 0 where
  pub sets : List Tree
  pub variants : Variants g k t sets
  pub same : HoldEquivalent (map notes tss) sets
