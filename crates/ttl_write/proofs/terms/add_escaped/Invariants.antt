use Rattle.std.specs.Str.{chars}
use Rattle.ttl_write.specs.Text.{character_text}
use Rattle.owl_writing.proofs.CharacterLaws.{IsLeft}
use Rattle.ttl_write.proofs.terms.add_escaped.Given as goal

abbrev pub invariant-loop-c : goal.invariant-loop-c
invariant-loop-c l = IsLeft character_text l.fn.draft (chars l.form) l.draft l.c-iterator.rest.now
