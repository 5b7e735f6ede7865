use Rattle.std.proofs.Common.{◌≡◌, take}
use Rattle.owl_atom.specs.Blocks.{flat}
use Rattle.owl_atom.proofs.blocks.Blocks.copy.Given as goal

abbrev pub invariant-loop-block : goal.invariant-loop-block
invariant-loop-block l = l.copies.items ≡ flat (take l.block-index l.block-items)
