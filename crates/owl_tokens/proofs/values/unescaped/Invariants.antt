-- What is left, behind a backslash or not, comes behind the text so far.
use Rattle.std.proofs.Common.{◌≡◌, false, ◌++◌, drop}
use Rattle.owl_tokens.specs.Values.{unescaped_behind}
use Rattle.owl_tokens.proofs.values.unescaped.Given as goal

abbrev pub invariant-loop-c : goal.invariant-loop-c
invariant-loop-c l = l.text ++ unescaped_behind l.escaped (drop l.c-index l.chars) ≡ unescaped_behind false l.chars
