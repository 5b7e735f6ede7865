use Rattle.std.proofs.Common.{◌∙◌}
use Rattle.blank_labels.proofs.FarDigits.{far_behind, not_far}
use Rattle.blank_labels.proofs.far.far_number.Goals as goal

pub returns-in-Some : goal.returns-in-Some
returns-in-Some c = c.far_in.ensures ∙ far_behind c.args.label.now c.text.result.now c.in-Some.digits.now c.text.utf8 c.text.ensures.chars c.in-Some.ensures.cases

pub returns-in-None : goal.returns-in-None
returns-in-None c = not_far c.args.label.now c.text.result.now c.text.ensures.scalars c.text.ensures.bytes c.in-None.ensures.cases
