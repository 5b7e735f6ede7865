use Rattle.std.proofs.Common.{◌≡◌, length}
use Rattle.ttl_tokens.specs.Escapes.{unescaped}
use Rattle.ttl_tokens.specs.EscapedText.{behind_text}
use Rattle.ttl_tokens.proofs.escapes.unescaped.Given as goal

abbrev pub invariant-loop-first : goal.invariant-loop-first
invariant-loop-first l = behind_text l.text (unescaped l.rest) ≡ unescaped l.chars

abbrev pub decreases-loop-first : goal.decreases-loop-first
decreases-loop-first l = length l.rest
