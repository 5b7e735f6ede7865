use Rattle.std.proofs.Common.{take}
use Rattle.ttl_levels.specs.NestTables.{AreNamed}
use Rattle.ttl_levels.proofs.named.names_of.Given as goal

abbrev pub invariant-loop-place : goal.invariant-loop-place
invariant-loop-place l = AreNamed l.graph (take l.place l.graph) l.names.items
