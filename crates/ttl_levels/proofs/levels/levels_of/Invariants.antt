use Rattle.std.proofs.Common.{length}
use Rattle.ttl_levels.specs.NestTables.{IsLevelAt}
use Rattle.ttl_levels.proofs.WalkLaws.{IsBackward}
use Rattle.ttl_levels.proofs.levels.levels_of.Given as goal

abbrev pub invariant-loop-number : goal.invariant-loop-number
invariant-loop-number l = IsBackward (IsLevelAt l.graph) l.graph l.roles.order l.levels.items l.rest

abbrev pub decreases-loop-number : goal.decreases-loop-number
decreases-loop-number l = length l.rest
