-- The bytes so far were taken, and nothing is taken again while there is room for tokens.
use Rattle.std.proofs.Common.{◌≡◌, ◌<◌, ◌≤◌, ◌-◌, [], length, take}
use Rattle.owl_lexer.specs.Sources.{TakesAgain}
use Rattle.owl_lexer.proofs.source.take_some.Given as goal

abbrev pub invariant-loop-place : goal.invariant-loop-place
invariant-loop-place g l =
    (l.place ≤ length l.bytes) × (length l.into.items < l.most → l.again.chars.items ≡ [])
    × TakesAgain g.L.TokenLanguage.automaton g.L.TokenLanguage.value_of l.fn.source l.fn.again (take l.place l.bytes) l.fn.into.items l.into.items l.source l.again

abbrev pub decreases-loop-place : goal.decreases-loop-place
decreases-loop-place g l = length l.bytes - l.place
