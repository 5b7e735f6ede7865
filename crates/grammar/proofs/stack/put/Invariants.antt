-- The symbols so far stand on the stack, in the order in which they came.
use Rattle.std.proofs.Common.{◌≡◌, ◌++◌}
use Rattle.grammar.proofs.stack.put.Given as goal

abbrev pub invariant-loop-symbol : goal.invariant-loop-symbol
invariant-loop-symbol l = l.stack.items ≡ l.initial.stack.items ++ l.yielded
