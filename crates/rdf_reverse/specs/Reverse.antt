-- What a graph says within the limits, or why it says nothing (Mapping to RDF Graphs, section 3).
use Rattle.std.specs.Prelude.{◌≡◌, ◌≤◌, ◌<◌, ◌⊎◌, ℕ, List, [], ◌∷◌, ◌++◌, length}
use Rattle.std.specs.List.{AllByRecursion}
use Rattle.owl_arena.specs.Shared.{deepest, heaviest}
use Rattle.owl_kind.specs.Kinds.{Entity, IsFirstClash}
use Rattle.owl_tree.specs.Canonical.{canonical}
use Rattle.owl_tree.specs.Ontologies.{IsOntology, Ontology, ontology_weight}
use Rattle.owl_tree.specs.Trees.{Tree, depth, weight}
use Rattle.rdf_graph.specs.declared.term.Term.{Term}
use Rattle.rdf_graph.specs.declared.triple.Triple.{Triple}
use Rattle.rdf_meaning.specs.Statements.{Says, headers}
use Rattle.rdf_faults.specs.Faults.{IsBadHeader, IsOfNothing, IsOrphan, IsReservedTriple, IsUntypedPart, IsUntypedStatement}
use Rattle.rdf_faults.specs.Firsts.{IsFirst}
use Rattle.rdf_roles.specs.Refusals.{IsFirstNode, IsNodeFault}
use Rattle.rdf_roles.specs.declared.fault.NodeFault.TheVariants as node
use Rattle.rdf_nodes.specs.Large.{HasLargeNumber}
use Rattle.rdf_statements.specs.GraphTrees.{IsTreeOf}
use Rattle.rdf_reverse.specs.declared.fault.ReverseFault.{ReverseFault}
use Rattle.rdf_reverse.specs.declared.fault.ReverseFault.TheVariants.{TwoKinds, NoHeader, TwoHeaders, BadHeader, Mixed, BadList, Cycle, BadNode, MainMissing, Reserved, Orphan, Untyped, NumberTooLarge, TooDeep, TooHeavy, Memory}

-- a tree that the graph says is too deep
pub record HasDeepTree (g : List Triple) (k : List Entity) (header : Term) : Type 0 where
  pub tree : Tree
  pub of : IsTreeOf g k header tree
  pub deep : deepest < depth tree

-- a tree that the graph says is too heavy, or the ontology is
pub data HasHeavyTree (g : List Triple) (k : List Entity) (header : Term) : Type 0 where
  of_tree : (t : Tree) → IsTreeOf g k header t → heaviest < weight (canonical t) → HasHeavyTree g k header
  of_all : (o : Ontology) → Says g k o → heaviest < ontology_weight o → HasHeavyTree g k header

-- The graph says the ontology, and nothing of it passes a limit.
pub record IsSaid (g : List Triple) (k : List Entity) (o : Ontology) : Type 0 where
  pub says : Says g k o
  pub small : HasLargeNumber g → ⊥
  pub shallow : HasDeepTree g k says.states.header → ⊥
  pub light : HasHeavyTree g k says.states.header → ⊥

-- no annotation and no axiom of the ontology is too deep
abbrev pub AreShallow : Ontology → Type 0
AreShallow o = AllByRecursion (λ t. depth t ≤ deepest) (o.annotations ++ o.axioms)

-- The ontology passes no limit: no tree is too deep, nor do all weigh too much, and its trees are those of the Structural Specification, whose
-- numbers fit 64 bits.
pub record IsWithin (o : Ontology) : Type 0 where
  pub is : IsOntology o
  pub shallow : AreShallow o
  pub light : ontology_weight o ≤ heaviest

-- What is asked of a graph, one behind the other: its kinds, its header, the forms of its nodes, what its reifications reify, the reserved IRIs,
-- what reaches its nodes, the terms of its nodes and of its other triples, and the limits.
pub data Step : Type 0 where
  of_kinds : Step
  of_header : Step
  of_nodes : Step
  of_reifications : Step
  of_names : Step
  of_reach : Step
  of_parts : Step
  of_statements : Step
  of_numbers : Step
  of_depths : Step
  of_weights : Step

abbrev pub limits : List Step
limits = of_numbers ∷ of_depths ∷ of_weights ∷ []

abbrev pub typing : List Step
typing = of_parts ∷ of_statements ∷ []

abbrev pub scanning : List Step
scanning = of_reifications ∷ of_names ∷ of_reach ∷ typing

abbrev pub steps : List Step
steps = of_kinds ∷ of_header ∷ of_nodes ∷ (scanning ++ limits)

-- what is wrong with the one header of the graph
pub data IsHeaderFault (g : List Triple) : ReverseFault → Type 0 where
  no_header : headers g ≡ [] → IsHeaderFault g NoHeader
  two_headers : 2 ≤ length (headers g) → IsHeaderFault g TwoHeaders
  bad_header : (x : Term) → IsBadHeader g x → IsHeaderFault g (BadHeader x)

-- the fault of a node
abbrev pub IsFaultOfNode : List Triple → ReverseFault → Type 0
IsFaultOfNode g (Mixed label) = IsNodeFault g (node.Mixed label)
IsFaultOfNode g (BadList label) = IsNodeFault g (node.BadList label)
IsFaultOfNode g (Cycle label) = IsNodeFault g (node.Cycle label)
IsFaultOfNode g (BadNode label) = IsNodeFault g (node.BadNode label)
IsFaultOfNode g _ = ⊥

-- The step finds this wrong, with the first IRI, node or triple of which it is so.
abbrev pub Finds : List Triple → List Entity → Step → ReverseFault → Type 0
Finds g k of_kinds f = (iri : List ℕ) × (f ≡ TwoKinds iri) × IsFirstClash k iri
Finds g k of_header f = IsHeaderFault g f
Finds g k of_nodes f = IsFaultOfNode g f
Finds g k of_reifications f =
    (header : Term) × (headers g ≡ header ∷ []) × (label : List ℕ) × (f ≡ MainMissing label) × IsFirstNode g (IsOfNothing g k header) label
Finds g k of_names f = (header : Term) × (headers g ≡ header ∷ []) × (t : Triple) × (f ≡ Reserved t) × IsFirst (IsReservedTriple g k header) g t
Finds g k of_reach f =
    (header : Term) × (headers g ≡ header ∷ []) × (label : List ℕ) × (f ≡ Orphan label) × IsFirstNode g (IsOrphan g k header) label
Finds g k of_parts f = (t : Triple) × (f ≡ Untyped t) × IsFirst (IsUntypedPart g k) g t
Finds g k of_statements f = (header : Term) × (headers g ≡ header ∷ []) × (t : Triple) × (f ≡ Untyped t) × IsFirst (IsUntypedStatement g k header) g t
Finds g k of_numbers f = (f ≡ NumberTooLarge) × HasLargeNumber g
Finds g k of_depths f = (header : Term) × (headers g ≡ header ∷ []) × (f ≡ TooDeep) × HasDeepTree g k header
Finds g k of_weights f = (header : Term) × (headers g ≡ header ∷ []) × (f ≡ TooHeavy) × HasHeavyTree g k header

abbrev pub FindsNothing : List Triple → List Entity → Step → Type 0
FindsNothing g k step = (f : ReverseFault) → Finds g k step f → ⊥

-- the first of these steps that finds something wrong finds this
abbrev pub FindsFirst : List Triple → List Entity → List Step → ReverseFault → Type 0
FindsFirst g k [] f = ⊥
FindsFirst g k (step ∷ more) f = Finds g k step f ⊎ (FindsNothing g k step × FindsFirst g k more f)

-- one of these steps finds this, and those before it nothing; or memory ran out, which is told of any graph
abbrev pub IsFoundBy : List Triple → List Entity → List Step → ReverseFault → Type 0
IsFoundBy g k some f = (f ≡ Memory) ⊎ FindsFirst g k some f

-- Why the graph says no ontology within the limits under these kinds.
abbrev pub IsUnsaid : List Triple → List Entity → ReverseFault → Type 0
IsUnsaid g k f = FindsFirst g k steps f

-- so; or memory ran out
abbrev pub IsReverseFault : List Triple → List Entity → ReverseFault → Type 0
IsReverseFault g k f = IsFoundBy g k steps f

-- the fault is that of a limit
abbrev pub IsLimitFault : ReverseFault → Type 0
IsLimitFault NumberTooLarge = Unit {0}
IsLimitFault TooDeep = Unit {0}
IsLimitFault TooHeavy = Unit {0}
IsLimitFault _ = ⊥
