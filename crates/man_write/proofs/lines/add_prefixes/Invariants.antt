use Rattle.std.proofs.Common.{◌≡◌, ◌++◌, take}
use Rattle.std.specs.List.{flat_map}
use Rattle.man_write.specs.Plans.{prefix_text}
use Rattle.man_write.proofs.lines.add_prefixes.Given as goal

-- the lines so far
abbrev pub invariant-loop-place : goal.invariant-loop-place
invariant-loop-place l = l.draft ≡ l.fn.draft ++ flat_map prefix_text (take l.place l.prefixes)
