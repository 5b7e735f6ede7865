use Rattle.std.proofs.Common.{◌≡◌, filter, not, take}
use Rattle.ttl_tokens.specs.TurtleValues.{is_backslash}
use Rattle.ttl_tokens.proofs.values.without_backslashes.Given as goal

abbrev pub invariant-loop-c : goal.invariant-loop-c
invariant-loop-c l = l.text ≡ filter (λ c. not (is_backslash c)) (take l.c-index l.chars)
