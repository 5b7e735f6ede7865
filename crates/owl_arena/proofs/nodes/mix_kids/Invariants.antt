use Rattle.std.proofs.Common.{◌≡◌, take}
use Rattle.std.specs.List.{fold}
use Rattle.owl_tree.specs.Mixes.{mix_step}
use Rattle.owl_arena.proofs.nodes.mix_kids.Given as goal

abbrev pub invariant-loop-kid : goal.invariant-loop-kid
invariant-loop-kid l = l.mixed ≡ fold mix_step l.fn.mix (take l.kid-index l.kids)
