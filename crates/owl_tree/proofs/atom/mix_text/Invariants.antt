use Rattle.std.proofs.Common.{◌≡◌, take}
use Rattle.std.specs.List.{fold}
use Rattle.owl_tree.specs.Mixes.{mix_step}
use Rattle.owl_tree.proofs.atom.mix_text.Given as goal

abbrev pub invariant-loop-byte : goal.invariant-loop-byte
invariant-loop-byte l = l.mixed ≡ fold mix_step l.fn.mix (take l.byte-index l.byte-items)
