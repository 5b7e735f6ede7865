-- Trees that are made of steps, one behind the other.
use Rattle.std.specs.Prelude.{ℕ, List, [], ◌∷◌, ◌++◌, ◌-◌, drop, length, take}
use Rattle.owl_tree.specs.Trees.{Tree, kids_of, leaf, node}
use Rattle.owl_tree.specs.Equivalence.{HoldsOfSome}
use Rattle.tree_stores.specs.Stores.{IsDeep, IsHeavy, StandFor}
use Rattle.tree_stores.specs.declared.fault.TreeFault.{TreeFault}
use Rattle.tree_stores.specs.declared.fault.TreeFault.TheVariants.{TooDeep, TooHeavy, Memory}
use Rattle.man_resolve.specs.declared.step.Step.{Step}
use Rattle.man_resolve.specs.Building.{Build, a_leaf, a_node, built}

-- how many stand in front of the kids of a node
abbrev pub front : ℕ → List Tree → ℕ
front count ts = length ts - count

-- the trees after a step: a node stands in place of its kids
abbrev pub stepped : Build → List Tree → List Tree
stepped (a_leaf t a) ts = ts ++ leaf t a ∷ []
stepped (a_node t count) ts = take (front count ts) ts ++ node t (kids_of (drop (front count ts) ts)) ∷ []

abbrev pub made : List Build → List Tree → List Tree
made [] ts = ts
made (b ∷ bs) ts = made bs (stepped b ts)

-- the trees that the steps make
abbrev pub trees_of : List Step → List Tree
trees_of steps = made (built steps) []

-- the fault is that of one of the trees; want of memory is told of any
abbrev pub IsFaultAmong : {H : Type 0} → List Tree → TreeFault H → Type 0
IsFaultAmong ts TooDeep = HoldsOfSome IsDeep ts
IsFaultAmong ts (TooHeavy h) = HoldsOfSome IsHeavy ts
IsFaultAmong ts Memory = Unit {0}

-- the numbers stand for the annotations and for the axioms
pub record AreMade {N : Type 0} (Stands : Tree → N → Type 0) (notes axioms : List Tree) (ns ms : List N) : Type 0 where
  pub notes_stand : StandFor Stands notes ns
  pub axioms_stand : StandFor Stands axioms ms
