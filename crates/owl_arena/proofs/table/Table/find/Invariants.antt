use Rattle.std.proofs.Common.{length}
use Rattle.owl_arena.proofs.Tables.{HasPassed}
use Rattle.owl_arena.proofs.table.Table.find.Given as goal

abbrev pub decreases-loop-link : goal.decreases-loop-link
decreases-loop-link l = l.link

abbrev pub invariant-loop-link : goal.invariant-loop-link
invariant-loop-link l = HasPassed l.self.nodes.items l.form (length l.self.heads.items) l.link
