use Rattle.std.proofs.Common.{sym, ap, ◌∙◌}
use Rattle.std.specs.Result.{result_ok}
use Rattle.blank_labels.proofs.FarDigits.{far_is, far_read}
use Rattle.blank_labels.proofs.far.far_in.Goals as goal

pub returns-then-are_far : goal.returns-then-are_far
returns-then-are_far c =
    let ds = c.args.digits.now in
    let far = sym c.are_far.ensures ∙ c.if-are_far.true in
    c.ok.ensures.value ∙ ap result_ok (far_read ds c.parse.result c.parse.ensures.value.0 far) ∙ far_is ds far
