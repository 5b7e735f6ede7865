use Rattle.std.proofs.Common.{rules}
use Rattle.owl_command.proofs.Sizes.{not_read, other_word, size_read, too_large}
use Rattle.owl_command.proofs.size.trial_size.Goals as goal

pub returns-then-not-are_digits-clause-none : goal.returns-then-not-are_digits-clause-none
returns-then-not-are_digits-clause-none c = other_word c.args.word.now (search rules)

pub returns-in-Ok-clause-some : goal.returns-in-Ok-clause-some
returns-in-Ok-clause-some c =
    size_read c.args.word.now c.parse.result c.in-Ok.size c.parse.ensures.value.0 (search rules) c.in-Ok.is (search rules)

pub returns-in_default-clause-none : goal.returns-in_default-clause-none
returns-in_default-clause-none c =
    too_large c.args.word.now c.parse.result c.in-Ok.size c.parse.ensures.value.0 c.in-Ok.is (search rules)

pub returns-in_default-2-clause-none : goal.returns-in_default-2-clause-none
returns-in_default-2-clause-none c = not_read c.args.word.now c.parse.result _ c.parse.ensures.value.0 c.in_default.is
