use Rattle.std.proofs.Common.{take}
use Rattle.owl_arena.specs.Held.{trees_at}
use Rattle.dl_graphs.specs.Ranges.{AreRanges}
use Rattle.dl_graphs.proofs.ranges.note_definitions.Given as goal

abbrev pub invariant-axioms : goal.invariant-axioms
invariant-axioms l = AreRanges l.arena.trees (trees_at l.arena.trees (take l.id-index l.axioms)) l.table.entries
