use Rattle.std.proofs.Common.{[], take}
use Rattle.tree_stores.specs.Stores.{Keeps, StandFor}
use Rattle.man_resolve.specs.Building.{built}
use Rattle.man_resolve.specs.Making.{made}
use Rattle.man_resolve.proofs.making.make_trees.Given as goal

abbrev pub invariant-loop-step : goal.invariant-loop-step
invariant-loop-step g l = record {
  kept : Keeps (g.S.TreeStore.stands l.fn.store) (g.S.TreeStore.stands l.store);
  stand : StandFor (g.S.TreeStore.stands l.store) (made (built (take l.step-index l.steps)) []) l.numbers.items;
}
