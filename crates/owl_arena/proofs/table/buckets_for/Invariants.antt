use Rattle.std.proofs.Common.{◌<◌, ◌-◌}
use Rattle.owl_arena.proofs.table.buckets_for.Given as goal

abbrev pub decreases-loop-buckets : goal.decreases-loop-buckets
decreases-loop-buckets l = l.needed - l.buckets
