-- The bytes so far were taken.
use Rattle.std.proofs.Common.{◌≤◌, ◌-◌, length, take}
use Rattle.owl_lexer.specs.Sources.{TakesBytes}
use Rattle.owl_lexer.proofs.Runs.{IsPlain}
use Rattle.owl_lexer.proofs.source.take_ascii.Given as goal

abbrev pub invariant-loop-place : goal.invariant-loop-place
invariant-loop-place g l =
    (l.place ≤ length l.bytes) × IsPlain l.source ×
    TakesBytes g.L.TokenLanguage.automaton g.L.TokenLanguage.value_of l.fn.source (take l.place l.bytes) l.fn.into.items l.into.items l.source

abbrev pub decreases-loop-place : goal.decreases-loop-place
decreases-loop-place g l = length l.bytes - l.place
