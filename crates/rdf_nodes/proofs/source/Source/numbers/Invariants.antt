use Rattle.std.proofs.Common.{length}
use Rattle.tree_stores.specs.Stores.{HaveKids}
use Rattle.rdf_nodes.specs.Numbers.{IsNodeTree}
use Rattle.rdf_nodes.proofs.Passing.{ArePassed}
use Rattle.rdf_nodes.proofs.source.Source.numbers.Given as goal

abbrev pub invariant-loop-number : goal.invariant-loop-number
invariant-loop-number g l =
    ArePassed l.self.graph.now l.self.kinds.now l.self.roles.now (g.S.TreeStore.stands l.fn.store) (g.S.TreeStore.stands l.store) l.ids.items l.rest
    × HaveKids (IsNodeTree l.self.graph.now l.self.kinds.now) (g.S.TreeStore.stands l.store) l.sum

abbrev pub decreases-loop-number : goal.decreases-loop-number
decreases-loop-number g l = length l.rest
