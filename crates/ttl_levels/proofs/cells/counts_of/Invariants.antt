use Rattle.std.proofs.Common.{length}
use Rattle.ttl_levels.specs.NestTables.{IsCellCountAt}
use Rattle.ttl_levels.proofs.WalkLaws.{IsForward}
use Rattle.ttl_levels.proofs.cells.counts_of.Given as goal

abbrev pub invariant-loop-number : goal.invariant-loop-number
invariant-loop-number l = IsForward (IsCellCountAt l.graph) l.graph l.roles.order l.cells.items l.rest

abbrev pub decreases-loop-number : goal.decreases-loop-number
decreases-loop-number l = length l.rest
