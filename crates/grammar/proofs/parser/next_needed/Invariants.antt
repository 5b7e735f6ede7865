-- What was expected at first comes to what is expected now by the acts that were added.
use Rattle.std.proofs.Common.{reverse}
use Rattle.grammar.specs.Predicting.{costs}
use Rattle.grammar.specs.Settling.{Settles}
use Rattle.grammar.proofs.parser.next_needed.Given as goal

abbrev pub invariant-loop-symbol : goal.invariant-loop-symbol
invariant-loop-symbol g l =
    Settles g.T.Table.grammar l.ahead (reverse l.fn.stack.items) l.fn.acts.items (reverse l.stack.items) l.acts.items

abbrev pub decreases-loop-symbol : goal.decreases-loop-symbol
decreases-loop-symbol g l = costs g.T.Table.grammar (reverse l.stack.items)
