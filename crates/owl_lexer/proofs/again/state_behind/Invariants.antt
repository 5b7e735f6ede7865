-- The characters so far lead to the state.
use Rattle.std.proofs.Common.{◌≡◌, Some, take}
use Rattle.owl_lexer.specs.Automata.{run}
use Rattle.owl_lexer.proofs.again.state_behind.Given as goal

abbrev pub invariant-loop-c : goal.invariant-loop-c
invariant-loop-c g l = run g.L.TokenLanguage.automaton (Some l.fn.state) (take l.c-index l.chars) ≡ Some l.state
