use Rattle.std.proofs.Common.{List}
use Rattle.owl_tree.specs.Trees.{Tree}
use Rattle.tree_stores.specs.Stores.{HasNumber}
use Rattle.rdf_nodes.specs.Nodes.{HoldNumbersUpTo}
use Rattle.rdf_nodes.specs.Numbers.{AreNumbered}
use Rattle.rdf_nodes.proofs.source.Source.by_label.Given as goal

abbrev pub invariant-loop-number : goal.invariant-loop-number
invariant-loop-number l =
    (trees : List Tree) → AreNumbered l.self.graph.now l.self.kinds.now l.self.roles.now (HasNumber trees) l.ids →
    HoldNumbersUpTo l.self.graph.now l.self.kinds.now l.self.roles.now trees l.number l.table.entries
