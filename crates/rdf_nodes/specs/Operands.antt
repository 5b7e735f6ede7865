-- What the triples of a node make it: a tag, over trees that stand by themselves and other nodes.
use Rattle.std.specs.Prelude.{◌≡◌, ◌≤◌, ℕ, Bool, true, false, List, [], ◌∷◌, ◌++◌, Contains, Option, None, Some, length, slice_get}
use Rattle.std.specs.Map.{keys_of}
use Rattle.owl_kind.specs.Kinds.{Entity}
use Rattle.owl_tree.specs.declared.atom.Atom.TheVariants as atom
use Rattle.owl_tree.specs.declared.row.Sort.{Sort}
use Rattle.owl_tree.specs.declared.row.Sort.TheVariants as sort
use Rattle.owl_tree.specs.declared.tag.Tag.TheVariants as tag
use Rattle.owl_tree.specs.Trees.{Tree, leaf, node, kids_of}
use Rattle.rdf_graph.specs.declared.term.Term.{Term}
use Rattle.rdf_graph.specs.declared.term.Term.TheVariants.{Blank, Iri, Literal}
use Rattle.rdf_graph.specs.declared.triple.Triple.{Triple}
use Rattle.rdf_meaning.specs.declared.word.Word.TheVariants as word
use Rattle.rdf_meaning.specs.declared.role.Role.TheVariants as role
use Rattle.rdf_meaning.specs.declared.row.Want.{Want}
use Rattle.rdf_meaning.specs.declared.row.Want.TheVariants.{One, Many, Mark, True}
use Rattle.rdf_meaning.specs.declared.row.Part.{Part}
use Rattle.rdf_meaning.specs.Nodes.{chosen, nil_iri, role_of}
use Rattle.rdf_meaning.specs.Rows.{Row, node_rows}
use Rattle.rdf_meaning.specs.Denotation.{Denotes, Fits, iri_leaf, number_leaf, of_node, select, simple, true_literal, sort_of}
use Rattle.rdf_faults.specs.WantLaws.{is_known}
use Rattle.rdf_rows.specs.Cardinalities.{cardinality_of}
use Rattle.rdf_rows.specs.declared.literals.Cardinality.TheVariants.{TooLarge}
use Rattle.rdf_roles.specs.Tables.{RoleTable}
use Rattle.rdf_nodes.specs.declared.form.Form.{Form}
use Rattle.rdf_nodes.specs.declared.form.Operand.{Operand}
use Rattle.rdf_nodes.specs.declared.form.Operand.TheVariants as operand

-- the labels of nodes, by their numbers
abbrev pub labels : RoleTable → List (List ℕ)
labels roles = keys_of roles.nodes

-- the tree that the operand is by itself
abbrev pub own_tree : Operand → Option Tree
own_tree (operand.Leaf t a) = Some (leaf t a)
own_tree (operand.Facet iri literal) =
    Some (node tag.FacetPair (kids_of (iri_leaf tag.Facet iri ∷ leaf tag.Literal (atom.Literal literal) ∷ [])))
own_tree (operand.Node number) = None

-- the operand is this tree by itself
pub record IsTree (what : Option Tree) (o : Operand) : Type 0 where
  pub tree : Tree
  pub own : own_tree o ≡ Some tree
  pub is : what ≡ Some tree

-- what is found is this tree, and nothing is found where there is none
abbrev pub IsFound : Option Tree → Option Operand → Type 0
IsFound what None = what ≡ None
IsFound what (Some o) = IsTree what o

-- Whether a term is of the sort is told by its kind, or by its role: not so of cardinalities, which may be too large, and of facets, which want a value.
abbrev pub is_told_by_kind : Sort → Bool
is_told_by_kind sort.Number = false
is_told_by_kind sort.FacetPair = false
is_told_by_kind _ = true

-- the term is no cardinality that is too large where one is wanted
abbrev pub IsSmall : Sort → Term → Type 0
IsSmall sort.Number x = cardinality_of (number_leaf x) ≡ Some TooLarge → ⊥
IsSmall _ x = Unit {0}

-- a node's row may want this of the term, and no cardinality is too large
abbrev pub IsWantedOfNode : Want → Term → Type 0
IsWantedOfNode (One s) x = (is_known (One s) ≡ true) × IsSmall s x
IsWantedOfNode (Many s least) x = (is_known (Many s least) ≡ true) × ((y : Term) → IsSmall s y)
IsWantedOfNode Mark x = Unit {0}
IsWantedOfNode True x = Unit {0}
IsWantedOfNode _ x = ⊥

-- the term denotes no trees where this is wanted
abbrev pub DenotesNone : List Triple → List Entity → Want → Term → Type 0
DenotesNone g k w x = (ts : List Tree) → Denotes g k x w ts → ⊥

-- trees are denoted at the part of the node
pub record IsHeldAt (g : List Triple) (k : List Entity) (x : Term) (p : Part) : Type 0 where
  pub object : Term
  pub selected : select g (of_node x) p.place ≡ object ∷ []
  pub wanted : IsWantedOfNode p.want object
  pub trees : List Tree
  pub denotes : Denotes g k object p.want trees

abbrev pub IsOwn : List Triple → List Entity → Sort → Term → Operand → Type 0
IsOwn g k s x o = IsTree (simple g k s x) o

-- the number is that of the term, a node that stands for a tree of the sort
pub record IsNodeOf (g : List Triple) (roles : RoleTable) (s : Sort) (x : Term) (number : ℕ) : Type 0 where
  pub label : List ℕ
  pub at : slice_get (labels roles) number ≡ Some label
  pub blank : x ≡ Blank label
  pub gives : sort_of (role_of g x) ≡ Some s

-- the term is a cell with this first element and this rest
pub record IsCellWith (g : List Triple) (x first rest : Term) : Type 0 where
  pub list : role_of g x ≡ role.List
  pub one_first : chosen g x word.First ≡ first ∷ []
  pub one_rest : chosen g x word.Rest ≡ rest ∷ []

module _ (g : List Triple) (k : List Entity) (roles : RoleTable) where
  -- the operand is what the term stands for where a tree of the sort stands: a tree, or what the node with the number stands for
  pub data IsOperand (s : Sort) (x : Term) : Operand → Type 0 where
    by_itself : (o : Operand) → IsOwn g k s x o → IsOperand s x o
    by_node : (number : ℕ) → IsNodeOf g roles s x number → IsOperand s x (operand.Node number)

  -- the elements of a list
  pub data AreElements (s : Sort) : Term → List Operand → Type 0 where
    no_cell : (x : Term) → x ≡ Iri nil_iri → AreElements s x []
    cell : (x first rest : Term) (o : Operand) (os : List Operand) → IsCellWith g x first rest → IsOperand s first o →
        AreElements s rest os → AreElements s x (o ∷ os)

  -- what the term gives where this is wanted
  pub data Gives (x : Term) : Want → List Operand → Type 0 where
    one : (s : Sort) (o : Operand) → IsOperand s x o → Gives x (One s) (o ∷ [])
    many : (s : Sort) (least : ℕ) (os : List Operand) → least ≤ length os → AreElements s x os → Gives x (Many s least) os
    mark : Gives x Mark []
    is_true : x ≡ Literal true_literal → Gives x True []

  -- what stands at a part of a row of the node
  pub record StandAt (x : Term) (p : Part) (os : List Operand) : Type 0 where
    pub object : Term
    pub selected : select g (of_node x) p.place ≡ object ∷ []
    pub gives : Gives object p.want os

  -- and at its parts, in order
  pub data AreOperands (x : Term) : List Part → List Operand → Type 0 where
    no_parts : AreOperands x [] []
    part : (p : Part) (ps : List Part) (os us : List Operand) → StandAt x p os → AreOperands x ps us → AreOperands x (p ∷ ps) (os ++ us)

  -- the form is that of the node, by a row of its own
  pub record IsForm (x : Term) (form : Form) : Type 0 where
    pub row : Row
    pub among : Contains node_rows row
    pub fits : Fits g (of_node x) row
    pub tag : form.tag ≡ row.tag
    pub operands : AreOperands x row.parts form.operands.items

  -- the tree is what the node with the number denotes
  pub record IsDenotedBy (number : ℕ) (t : Tree) : Type 0 where
    pub label : List ℕ
    pub at : slice_get (labels roles) number ≡ Some label
    pub sort : Sort
    pub gives : sort_of (role_of g (Blank label)) ≡ Some sort
    pub denotes : Denotes g k (Blank label) (One sort) (t ∷ [])

  -- the operand stands for the tree
  abbrev pub Means : Operand → Tree → Type 0
  Means (operand.Leaf t a) u = own_tree (operand.Leaf t a) ≡ Some u
  Means (operand.Facet iri literal) u = own_tree (operand.Facet iri literal) ≡ Some u
  Means (operand.Node number) u = IsDenotedBy number u

  -- operands and their trees, one by one
  abbrev pub AllMean : List Operand → List Tree → Type 0
  AllMean [] [] = Unit {0}
  AllMean [] (t ∷ ts) = ⊥
  AllMean (o ∷ os) [] = ⊥
  AllMean (o ∷ os) (t ∷ ts) = Means o t × AllMean os ts
