-- What was taken from the end of what was held comes first.
use Rattle.std.proofs.Common.{◌≡◌, ◌≤◌, ◌++◌, length, take, drop, reverse}
use Rattle.owl_lexer.proofs.again.put_back.Given as goal

abbrev pub invariant-loop-held : goal.invariant-loop-held
invariant-loop-held l =
    (l.count ≤ length l.held.items) × (take l.count l.held.items ≡ take l.count l.fn.held.items)
    × (drop l.count l.held.items ++ reverse l.chars.items ≡ drop l.count l.fn.held.items ++ reverse l.fn.chars.items)

abbrev pub decreases-loop-held : goal.decreases-loop-held
decreases-loop-held l = length l.held.items
