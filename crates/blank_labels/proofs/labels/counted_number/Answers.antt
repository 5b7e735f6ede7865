use Rattle.std.proofs.Common.{◌<◌, ◌^◌, subst, sym, ◌∙◌}
use Rattle.blank_labels.proofs.LabelLaws.{counted_below}
use Rattle.blank_labels.proofs.Digits.{number_read}
use Rattle.blank_labels.proofs.labels.counted_number.Goals as goal

pub returns-then-are_counted-clause-number : goal.returns-then-are_counted-clause-number
returns-then-are_counted-clause-number c =
    c.unwrap_or.ensures ∙ number_read c.args.digits.now c.parse.result c.parse.ensures.value.0 (sym c.are_counted.ensures ∙ c.if-are_counted.true)

pub returns-then-are_counted-clause-below : goal.returns-then-are_counted-clause-below
returns-then-are_counted-clause-below c = subst (λ n. n < 10 ^ 18) (sym (returns-then-are_counted-clause-number c)) (counted_below c.args.digits.now)
