-- Axioms without annotations that nodes stand for, by the numbers of the nodes.
use Rattle.std.specs.Prelude.{◌≡◌, ℕ, List, [], ◌∷◌, Option, Some, slice_get}
use Rattle.owl_kind.specs.Kinds.{Entity}
use Rattle.owl_tree.specs.declared.tag.Tag.{Tag}
use Rattle.owl_tree.specs.Trees.{Tree, node, kids_of}
use Rattle.rdf_graph.specs.declared.term.Term.TheVariants.{Blank}
use Rattle.rdf_graph.specs.declared.triple.Triple.{Triple}
use Rattle.rdf_meaning.specs.Denotation.{of_node}
use Rattle.rdf_meaning.specs.Statements.{IsAxiomWith, notes}
use Rattle.rdf_nodes.specs.Operands.{labels}
use Rattle.rdf_roles.specs.Tables.{RoleTable}

module _ (g : List Triple) (k : List Entity) (roles : RoleTable) {N : Type 0} (Stands : Tree → N → Type 0) where
  -- the number stands for the axiom, with no annotation, for which the node stands
  pub record IsBareAxiom (node_number : ℕ) (n : N) : Type 0 where
    pub label : List ℕ
    pub at : slice_get (labels roles) node_number ≡ Some label
    pub tag : Tag
    pub kids : List Tree
    pub said : IsAxiomWith g k (of_node (Blank label)) tag kids
    pub stands : Stands (node tag (kids_of (notes [] ∷ kids))) n

  -- so for each node that has a number
  abbrev pub AreBareAxioms : List (Option N) → Type 0
  AreBareAxioms ns = (node_number : ℕ) (n : N) → slice_get ns node_number ≡ Some (Some n) → IsBareAxiom node_number n
