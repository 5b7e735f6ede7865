use Rattle.std.proofs.Common.{Err, ap, ◌∙◌}
use Rattle.std.proofs.Math.Seq.{take-length}
use Rattle.std.specs.Str.{chars}
use Rattle.std.specs.declared.str.Chars.{Chars}
use Rattle.owl_tokens.specs.Tokens.{character_spelling}
use Rattle.owl_writing.specs.declared.fault.WriteFault.TheVariants.{TooLong}
use Rattle.owl_writing.proofs.CharacterLaws.{left_at_first, left_after, left_at_last, left_too_long}
use Rattle.owl_writing.proofs.DraftLaws.{passed_on}
use Rattle.written_trees.proofs.Keeping.{starts_behind}
use Rattle.written_trees.proofs.atoms.add_escaped.Goals as goal

pub loop-c-init : goal.loop-c-init
loop-c-init c = record {
  left = left_at_first character_spelling c.args.draft.now c.args.form.now _ c.utf8.form (ap (λ (s : Chars). s.rest.now) c.into_iter-c-iterator.ensures.into_iter_gives ∙ c.chars-c-items.ensures.rest);
  kept = take-length c.args.draft.now;
}

pub loop-c-preserved : goal.loop-c-preserved
loop-c-preserved c = record {
  left = left_after character_spelling c.args.draft.now (chars c.args.form.now) c.loop-c.draft c.loop-c.c-iterator.rest.now c.next.new.self.rest.now c.add_character.new.draft c.in-Some.c c.loop-c.invariant.left c.in-Some.ensures.steps.0 c.in_ok-add_character.ensures.ok;
  kept = starts_behind c.args.draft.now c.loop-c.draft c.add_character.new.draft c.loop-c.invariant.kept c.add_character.ensures.kept;
}

pub returns-in_err-add_character-clause-too_long :
    goal.returns-in_err-add_character-clause-too_long
returns-in_err-add_character-clause-too_long c = λ e.
    let found = passed_on c.from_residual.result c.in_err-add_character.field-0.0 TooLong c.from_residual.ensures.1 e in
    left_too_long character_spelling c.args.draft.now (chars c.args.form.now) c.loop-c.draft c.loop-c.c-iterator.rest.now c.next.new.self.rest.now c.in-Some.c c.loop-c.invariant.left c.in-Some.ensures.steps.0 (c.in_err-add_character.ensures.too_long (ap Err found))

pub returns-clause-ok : goal.returns-clause-ok
returns-clause-ok c = left_at_last character_spelling c.args.draft.now (chars c.args.form.now) c.loop-c.draft c.loop-c.c-iterator.rest.now c.loop-c.invariant.left c.in-None.ensures.steps.0.0

pub returns-in_err-add_character-clause-kept : goal.returns-in_err-add_character-clause-kept
returns-in_err-add_character-clause-kept c =
    starts_behind c.args.draft.now c.loop-c.draft c.add_character.new.draft c.loop-c.invariant.kept c.add_character.ensures.kept
