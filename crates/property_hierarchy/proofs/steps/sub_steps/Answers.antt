use Rattle.std.proofs.Common.{false, arith, sym, ◌∙◌}
use borrow.Author.Tests.{ltb-false, ltb-true}
use Rattle.std.proofs.lemmas.Result.{IfOk-weaker}
use Rattle.property_hierarchy.specs.Numbers.{inverse_number}
use Rattle.property_hierarchy.proofs.Stepping.{sub_none, sub_over}
use Rattle.property_hierarchy.proofs.steps.sub_steps.Goals as goal
use Rattle.property_hierarchy.proofs.steps.sub_steps.Goals.{in_default-via-then-ps-lt2, in_default-via-else-ps-lt2+else-ps-lt3}

pub returns-in-len2 : goal.returns-in-len2
returns-in-len2 c =
    IfOk-weaker c.one_step.result _ _ (λ steps e. e ∙ sym (sub_over inverse_number c.args.ps.now (record { place = 0; inverted = false }) c.in-len2.len_at_least c.in-len2.len_below)) c.one_step.ensures

pub returns-in_default : goal.returns-in_default
returns-in_default c =
    c.new.ensures.items ∙ sym (sub_none inverse_number c.args.ps.now (elim c.in_default.branch [
      | in_default-via-then-ps-lt2 w ↦ λ l. omega (arith, ltb-true, ltb-false)
      | in_default-via-else-ps-lt2+else-ps-lt3 w ↦ λ l. omega (arith, ltb-true, ltb-false)
    ]))
