use Rattle.std.proofs.Common.{◌∙◌}
use Rattle.blank_labels.proofs.Prefixes.{no_number, number_behind}
use Rattle.blank_labels.proofs.labels.label_number.Goals as goal

pub returns-in-Some-clause-number : goal.returns-in-Some-clause-number
returns-in-Some-clause-number c =
    c.counted_number.ensures.number ∙ number_behind c.args.label.now c.text.result.now c.in-Some.digits.now c.text.utf8 c.text.ensures.chars c.in-Some.ensures.cases

pub returns-in-None-clause-number : goal.returns-in-None-clause-number
returns-in-None-clause-number c = no_number c.args.label.now c.text.result.now c.text.ensures.scalars c.text.ensures.bytes c.in-None.ensures.cases
