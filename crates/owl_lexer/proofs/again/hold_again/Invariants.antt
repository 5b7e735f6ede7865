-- Characters that were taken again are held.
use Rattle.std.proofs.Common.{length}
use Rattle.owl_lexer.specs.Retaking.{HoldsAgain}
use Rattle.owl_lexer.proofs.again.hold_again.Given as goal

abbrev pub invariant-loop-c : goal.invariant-loop-c
invariant-loop-c g l = HoldsAgain g.L.TokenLanguage.automaton l.fn.hand l.fn.again l.hand l.again

abbrev pub decreases-loop-c : goal.decreases-loop-c
decreases-loop-c g l = length l.again.chars.items
