-- What was cut stands before what is left.
use Rattle.std.proofs.Common.{◌+◌, length}
use Rattle.owl_lexer.specs.Retaking.{Settles}
use Rattle.owl_lexer.proofs.again.settle.Given as goal

abbrev pub invariant-loop-hand : goal.invariant-loop-hand
invariant-loop-hand g l =
    Settles g.L.TokenLanguage.automaton g.L.TokenLanguage.value_of l.fn.hand l.fn.again l.fn.into.items l.into.items l.hand l.again

abbrev pub decreases-loop-hand : goal.decreases-loop-hand
decreases-loop-hand g l = length l.hand.held.items + length l.again.chars.items
