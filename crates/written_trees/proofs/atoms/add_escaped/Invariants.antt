use Rattle.std.specs.Io.{StartsWith}
use Rattle.std.specs.Str.{chars}
use Rattle.owl_tokens.specs.Tokens.{character_spelling}
use Rattle.owl_writing.proofs.CharacterLaws.{IsLeft}
use Rattle.written_trees.proofs.atoms.add_escaped.Given as goal

abbrev pub invariant-loop-c : goal.invariant-loop-c
invariant-loop-c l = record {
  left : IsLeft character_spelling l.fn.draft (chars l.form) l.draft l.c-iterator.rest.now;
  kept : StartsWith l.draft l.fn.draft;
}
