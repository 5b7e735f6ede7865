use Rattle.std.proofs.Common.{◌≡◌, drop}
use Rattle.owl_arena.specs.Members.{are_one_other}
use Rattle.owl_arena.proofs.shape.are_one_other.Given as goal

abbrev pub invariant-loop-place : goal.invariant-loop-place
invariant-loop-place l = are_one_other l.one (drop l.place l.members) ≡ are_one_other l.one l.members
