-- Graphs that pass no limit, and what they say in an arena.
use Rattle.std.specs.Prelude.{◌<◌, ℕ, List}
use Rattle.owl_arena.specs.Shared.{heaviest}
use Rattle.owl_tree.specs.Canonical.{canonical}
use Rattle.owl_tree.specs.Trees.{Tree, weight}
use Rattle.rdf_nodes.specs.Large.{HasLargeNumber}
use Rattle.rdf_scans.specs.declared.reading.Reading.{Reading}
use Rattle.rdf_statements.specs.GraphTrees.{AreStatements, IsTreeOf}
use Rattle.tree_stores.specs.Stores.{HasNumber}
use Rattle.rdf_reverse.specs.Reverse.{HasDeepTree}

-- no cardinality is too large, and no tree too deep
pub record AreShallow (reading : Reading) : Type 0 where
  pub small : HasLargeNumber reading.graph.now → ⊥
  pub shallow : HasDeepTree reading.graph.now reading.kinds.now reading.header.now → ⊥

-- nor is any tree too heavy
pub record AreWithin (reading : Reading) : Type 0 where
  pub are_shallow : AreShallow reading
  pub light : (t : Tree) → IsTreeOf reading.graph.now reading.kinds.now reading.header.now t → heaviest < weight (canonical t) → ⊥

-- the numbers are those of the annotations and axioms that the graph states
abbrev pub AreStated : Reading → List Tree → List ℕ → List ℕ → Type 0
AreStated reading trees annotations axioms =
    AreStatements (HasNumber trees) reading.graph.now reading.kinds.now reading.header.now annotations axioms
