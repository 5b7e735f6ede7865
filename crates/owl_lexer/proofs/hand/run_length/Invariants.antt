-- The bytes so far are a run.
use Rattle.std.proofs.Common.{◌≤◌, ◌-◌, length, take}
use Rattle.owl_lexer.specs.Hands.{AreRun}
use Rattle.owl_lexer.proofs.hand.run_length.Given as goal

abbrev pub invariant-loop-count : goal.invariant-loop-count
invariant-loop-count g l = (l.count ≤ length l.bytes) × AreRun g.L.TokenLanguage.automaton l.state (take l.count l.bytes)

abbrev pub decreases-loop-count : goal.decreases-loop-count
decreases-loop-count g l = length l.bytes - l.count
