-- Nodes that stand for something as parts of axioms.
use Rattle.std.specs.Prelude.{◌≡◌, List, [], ◌∷◌}
use Rattle.std.specs.List.{AllByRecursion}
use Rattle.owl_kind.specs.Kinds.{Entity}
use Rattle.owl_tree.specs.declared.tag.Tag.{Tag}
use Rattle.owl_tree.specs.declared.row.Sort.{Sort}
use Rattle.owl_tree.specs.Trees.{Tree, kids_of, node}
use Rattle.rdf_graph.specs.declared.term.Term.{Term}
use Rattle.rdf_graph.specs.declared.triple.Triple.{Triple}
use Rattle.rdf_meaning.specs.declared.role.Role.TheVariants as role
use Rattle.rdf_meaning.specs.declared.row.Want.TheVariants.{One}
use Rattle.rdf_meaning.specs.declared.row.Part.{Part}
use Rattle.rdf_meaning.specs.Nodes.{role_of}
use Rattle.rdf_meaning.specs.Denotation.{AreKeys, Bearer, Denotes, Lists, of_node, select}
use Rattle.rdf_meaning.specs.Statements.{IsAxiomWith}

-- what is true of a node is true of its kids
abbrev pub GoesDown : (Tree → Type 0) → Type 0
GoesDown P = (t : Tag) (us : List Tree) → P (node t (kids_of us)) → AllByRecursion P us

-- true of each tree
abbrev pub AnyTree : Tree → Type 0
AnyTree t = Unit {0}

-- The term is no node but for an individual; or it denotes a tree, is a list whose elements do, or stands for an axiom. Of the tree, of
-- the elements, or of what stands at the parts of the axiom, this is true.
pub data IsMeant (g : List Triple) (k : List Entity) (P : Tree → Type 0) : Term → Type 0 where
  an_individual : (x : Term) → role_of g x ≡ role.Individual → IsMeant g k P x
  a_tree : (x : Term) (s : Sort) (ts : List Tree) → Denotes g k x (One s) ts → AllByRecursion P ts → IsMeant g k P x
  a_list : (x : Term) (s : Sort) (ts : List Tree) → Lists g k x s ts → AllByRecursion P ts → IsMeant g k P x
  a_list_of_keys : (x : Term) (os ds : List Tree) → AreKeys g k x os ds → AllByRecursion P os → AllByRecursion P ds → IsMeant g k P x
  an_axiom : (x : Term) (t : Tag) (ts : List Tree) → IsAxiomWith g k (of_node x) t ts → AllByRecursion P ts → IsMeant g k P x

-- one term stands at the part, and denotes what is wanted there
pub record HasPart (g : List Triple) (k : List Entity) (b : Bearer) (p : Part) : Type 0 where
  pub z : Term
  pub one : select g b p.place ≡ z ∷ []
  pub ts : List Tree
  pub denotes : Denotes g k z p.want ts

-- and of the trees that it denotes this is true
pub record HasPartOf (g : List Triple) (k : List Entity) (P : Tree → Type 0) (b : Bearer) (p : Part) : Type 0 where
  pub part : HasPart g k b p
  pub all : AllByRecursion P part.ts
