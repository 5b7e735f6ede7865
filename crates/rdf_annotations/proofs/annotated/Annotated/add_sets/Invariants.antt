use Rattle.std.specs.Prelude.{take}
use Rattle.tree_stores.specs.Stores.{Keeps}
use Rattle.rdf_annotations.specs.Annotations.{AreSetsSoFar}
use Rattle.rdf_annotations.proofs.annotated.Annotated.add_sets.Given as goal

abbrev pub invariant-loop-number : goal.invariant-loop-number
invariant-loop-number g l =
    AreSetsSoFar (g.S.TreeStore.stands l.store) l.self.reading.graph.now l.self.reading.kinds.now l.self.reading.roles.now (take l.number-index l.number-items) l.sets.of_nodes.items l.sets.empty
    × Keeps (g.S.TreeStore.stands l.fn.store) (g.S.TreeStore.stands l.store)
