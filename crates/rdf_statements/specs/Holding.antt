-- Axioms in a store (Mapping to RDF Graphs, sections 3.2.5 and 3.3).
use Rattle.std.specs.Prelude.{◌≡◌, ◌||◌, not, ℕ, Bool, List, [], ◌∷◌, ◌++◌, Contains, map}
use Rattle.std.specs.List.{filter}
use Rattle.owl_kind.specs.Kinds.{Entity}
use Rattle.owl_tree.specs.Trees.{Tree, node, kids_of}
use Rattle.rdf_graph.specs.declared.term.Term.{Term}
use Rattle.rdf_graph.specs.declared.term.Term.TheVariants.{Blank}
use Rattle.rdf_graph.specs.declared.triple.Triple.{Triple}
use Rattle.rdf_meaning.specs.declared.role.Role.TheVariants as role
use Rattle.rdf_meaning.specs.Nodes.{is_role, is_structural, nodes_of, role_of}
use Rattle.rdf_meaning.specs.Statements.{Annotates, AreAxioms, AreNodeAxioms, axioms_of, is_annotation_triple, is_header_triple, main_triples, notes, notes_of}
use Rattle.rdf_roles.specs.Tables.{RoleTable}
use Rattle.tree_stores.specs.Stores.{HaveKids, StandFor}
use Rattle.tree_stores.specs.declared.fault.TreeFault.{TreeFault}
use Rattle.rdf_annotations.specs.Annotations.{AreSets, IsFaultOfSome}
use Rattle.rdf_annotations.specs.Held.{IsAnnotated}
use Rattle.rdf_nodes.specs.Numbers.{AreKnown, AreNumbered}
use Rattle.rdf_statements.specs.declared.form.AxiomForm.{AxiomForm}
use Rattle.rdf_statements.specs.declared.form.Kid.{Kid}
use Rattle.rdf_statements.specs.declared.known.Known.{Known}
use Rattle.rdf_statements.specs.GraphTrees.{AreStatements, IsHeldWithin, IsStatementFault, IsTreeOf, StatesAxioms}
use Rattle.rdf_statements.specs.Forms.{AllKidsMean, KidMeans}

-- one of these trees is too deep or too heavy
abbrev pub IsFaultOfOne : {H : Type 0} → List Tree → TreeFault H → Type 0
IsFaultOfOne ts = IsFaultOfSome (Contains ts)

module _ (g : List Triple) (k : List Entity) (roles : RoleTable) where
  -- each kid stands for a tree
  pub record HaveTrees (ks : List Kid) : Type 0 where
    pub trees : List Tree
    pub mean : AllKidsMean g k roles ks trees

  -- the tree is one of those that the kids stand for
  pub record IsOfKids (ks : List Kid) (t : Tree) : Type 0 where
    pub trees : List Tree
    pub mean : AllKidsMean g k roles ks trees
    pub among : Contains trees t

  -- the number stands for what the kid stands for
  pub record KidStands {N : Type 0} (Stands : Tree → N → Type 0) (x : Kid) (n : N) : Type 0 where
    pub tree : Tree
    pub means : KidMeans g k roles x tree
    pub stands : Stands tree n

  -- so for kids and numbers, one by one
  pub record KidsStand {N : Type 0} (Stands : Tree → N → Type 0) (ks : List Kid) (ns : List N) : Type 0 where
    pub trees : List Tree
    pub mean : AllKidsMean g k roles ks trees
    pub stand : StandFor Stands trees ns

  -- the tree is the axiom of the form with one of these sets of annotations
  pub record IsOfForm (form : AxiomForm) (sets : List Tree) (t : Tree) : Type 0 where
    pub kids : List Tree
    pub mean : AllKidsMean g k roles form.kids.items kids
    pub annotations : Tree
    pub inside : Contains sets annotations
    pub whole : t ≡ node form.tag (kids_of (annotations ∷ kids))

  -- the numbers stand for the axiom of the form with each of these sets
  pub record FormStands {N : Type 0} (Stands : Tree → N → Type 0) (form : AxiomForm) (sets : List Tree) (ns : List N) : Type 0 where
    pub kids : List Tree
    pub mean : AllKidsMean g k roles form.kids.items kids
    pub stand : StandFor Stands (axioms_of form.tag kids sets) ns

-- the triple is an axiom
abbrev pub is_main_triple : List Triple → List Entity → Term → Triple → Bool
is_main_triple g k header t = not (is_structural g t || is_header_triple header t || is_annotation_triple g k header t)

-- the nodes with these labels that stand for axioms
abbrev pub main_nodes : List Triple → List (List ℕ) → List Term
main_nodes g labels = map Blank (filter (λ label. is_role role.Main (role_of g (Blank label))) labels)

-- the number alone stands for the set of annotations of the node
pub record IsOnlySet {N : Type 0} (Stands : Tree → N → Type 0) (g : List Triple) (k : List Entity) (x : Term) (ns : List N) : Type 0 where
  pub annotations : List Tree
  pub annotates : Annotates g k (notes_of g x) annotations
  pub stand : StandFor Stands (notes annotations ∷ []) ns

-- the numbers stand for some trees that are so
pub record StandForSome {N : Type 0} (Stands : Tree → N → Type 0) (Are : List Tree → Type 0) (ns : List N) : Type 0 where
  pub trees : List Tree
  pub are : Are trees
  pub stand : StandFor Stands trees ns

-- the numbers of some trees that are so stand behind others
pub record Adds {N : Type 0} (Old New : Tree → N → Type 0) (Are : List Tree → Type 0) (old new : List N) : Type 0 where
  pub trees : List Tree
  pub are : Are trees
  pub stand : (before : List Tree) → StandFor Old before old → StandFor New (before ++ trees) new

-- the numbers stand for all axioms of the graph
pub record StandForAxioms {N : Type 0} (Stands : Tree → N → Type 0) (g : List Triple) (k : List Entity) (header : Term) (ns : List N) : Type 0 where
  pub by_triples : List Tree
  pub are_axioms : AreAxioms g k (main_triples g k header) by_triples
  pub by_nodes : List Tree
  pub are_node_axioms : AreNodeAxioms g k (nodes_of g role.Main) by_nodes
  pub stand : StandFor Stands (by_triples ++ by_nodes) ns

-- the numbers stand for what the graph states, and all that it says is held
pub record HoldAll {N : Type 0} (Stands : Tree → N → Type 0) (g : List Triple) (k : List Entity) (header : Term) (annotations axioms : List N) : Type 0 where
  pub stated : AreStatements Stands g k header annotations axioms
  pub held : (t : Tree) → IsTreeOf g k header t → IsHeldWithin Stands t

-- what the axioms of a graph are held with stands in the store
pub record IsKnown {N : Type 0} (Stands : Tree → N → Type 0) (known : Known N) : Type 0 where
  pub annotated : IsAnnotated known.annotated
  pub axioms : StatesAxioms known.annotated.reading.graph.now known.annotated.reading.kinds.now known.annotated.reading.header.now
  pub numbered : AreNumbered known.annotated.reading.graph.now known.annotated.reading.kinds.now known.annotated.reading.roles.now Stands known.ids.now
  pub all : AreKnown known.annotated.reading.graph.now known.annotated.reading.roles.now known.ids.now
  pub sets : AreSets Stands known.annotated.reading.graph.now known.annotated.reading.kinds.now known.annotated.reading.roles.now known.sets.now.of_nodes.items known.sets.now.empty

-- a tree that the graph says
abbrev pub IsKnownTree : {N : Type 0} → Known N → Tree → Type 0
IsKnownTree known = IsTreeOf known.annotated.reading.graph.now known.annotated.reading.kinds.now known.annotated.reading.header.now

-- different trees that it says, and that stand, have at least so many kids together
abbrev pub HaveKnownKids : {N : Type 0} → (Tree → N → Type 0) → Known N → ℕ → Type 0
HaveKnownKids Stands known sum = HaveKids (IsKnownTree known) Stands sum

-- some tree that it says is too large, or such trees have too many kids together
abbrev pub IsKnownFault : {H N : Type 0} → Known N → TreeFault H → Type 0
IsKnownFault known fault = IsStatementFault known.annotated.reading.graph.now known.annotated.reading.kinds.now known.annotated.reading.header.now fault
