-- The parts of ontologies, and the leaves that stand in them.
use Rattle.std.specs.Prelude.{◌≡◌, ℕ, List, [], ◌∷◌, ◌++◌, map}
use Rattle.std.specs.List.{AllByRecursion}
use Rattle.owl_arena.specs.Held.{tree_at, trees_at}
use Rattle.owl_doc.specs.declared.item.Item.{Item}
use Rattle.owl_doc.specs.declared.item.Item.TheVariants.{Header, Axiom}
use Rattle.owl_doc.specs.Documents.{Document, ontology_of}
use Rattle.owl_doc.specs.Entities.{entities, entities_of}
use Rattle.owl_kind.specs.Kinds.{Entity}
use Rattle.owl_tree.specs.declared.atom.Atom.{Atom}
use Rattle.owl_tree.specs.declared.tag.Tag.{Tag}
use Rattle.owl_tree.specs.Ontologies.{Ontology, canonical_list}
use Rattle.owl_tree.specs.Trees.{Tree, Kids, leaf, node, no_kids, kid, kids_of}

-- an atom, as what the tag says
pub record Leaf : Type 0 where
  pub tag : Tag
  pub atom : Atom

-- the leaves of a tree, from left to right
abbrev mutual
  pub leaves : Tree → List Leaf
  leaves (leaf t a) = record { tag = t; atom = a } ∷ []
  leaves (node t ks) = leaves_of ks

  pub leaves_of : Kids → List Leaf
  leaves_of no_kids = []
  leaves_of (kid t ks) = leaves t ++ leaves_of ks

-- the leaves of the trees with these numbers
abbrev pub leaves_at : List Tree → List ℕ → List Leaf
leaves_at ts ids = leaves_of (kids_of (trees_at ts ids))

-- The header, in which trees stand only in annotations, or an axiom.
pub data Part : Type 0 where
  of_header : List Tree → Part
  of_axiom : Tree → Part

abbrev pub leaves_in : Part → List Leaf
leaves_in (of_header annotations) = leaves_of (kids_of annotations)
leaves_in (of_axiom t) = leaves t

-- the entities of a part, from left to right
abbrev pub part_entities : Part → List Entity
part_entities (of_header annotations) = entities_of (kids_of annotations)
part_entities (of_axiom t) = entities t

-- the header, and then the axioms in canonical order
abbrev pub parts_of : Ontology → List Part
parts_of o = of_header (canonical_list o.annotations) ∷ map of_axiom (canonical_list o.axioms)

-- the leaves of all that an ontology says
abbrev pub ontology_leaves : Ontology → List Leaf
ontology_leaves o = leaves_of (kids_of (o.annotations ++ o.axioms))

-- what a document's item is
abbrev pub part_at : Document → Item → Part
part_at d Header = of_header (ontology_of d).annotations
part_at d (Axiom id) = of_axiom (tree_at d.arena.trees id)

-- the first of these of which the fact does not hold
pub record IsFirstWithout (Holds : Part → Type 0) (parts : List Part) (part : Part) : Type 0 where
  pub before : List Part
  pub after : List Part
  pub split : parts ≡ before ++ part ∷ after
  pub held : AllByRecursion Holds before
  pub fails : Holds part → ⊥
