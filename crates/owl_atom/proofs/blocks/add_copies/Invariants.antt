use Rattle.std.proofs.Common.{◌≡◌, ◌++◌, take}
use Rattle.owl_atom.proofs.blocks.add_copies.Given as goal

abbrev pub invariant-loop-prefix : goal.invariant-loop-prefix
invariant-loop-prefix l = l.copies.items ≡ l.fn.copies.items ++ take l.prefix-index l.block
