use Rattle.std.proofs.Common.{false, arith, ap, sym, ◌∙◌, [], ◌∷◌, get_or}
use borrow.Author.Tests.{ltb-false, ltb-true}
use Rattle.std.proofs.lemmas.Result.{IfOk-weaker}
use Rattle.property_hierarchy.specs.Numbers.{inverse_number}
use Rattle.property_hierarchy.specs.declared.numbers.PropertyNumber.{PropertyNumber}
use Rattle.property_hierarchy.proofs.Stepping.{symmetric_none, symmetric_over}
use Rattle.property_hierarchy.proofs.steps.symmetric_steps.Goals as goal
use Rattle.property_hierarchy.proofs.steps.symmetric_steps.Goals.{in_default-via-then-ps-lt1, in_default-via-else-ps-lt1+else-ps-lt2}

pub returns-in-len1 : goal.returns-in-len1
returns-in-len1 c =
    let d : PropertyNumber = record { place = 0; inverted = false } in
    IfOk-weaker c.one_step.result _ _
    (λ steps e. e ∙ (ap (λ (n : PropertyNumber). (get_or c.args.ps.now 0 d, n) ∷ []) c.inverse.ensures ∙ sym (symmetric_over inverse_number c.args.ps.now d c.in-len1.len_at_least c.in-len1.len_below)))
    c.one_step.ensures

pub returns-in_default : goal.returns-in_default
returns-in_default c =
    c.new.ensures.items ∙ sym (symmetric_none inverse_number c.args.ps.now (elim c.in_default.branch [
      | in_default-via-then-ps-lt1 w ↦ λ l. omega (arith, ltb-true, ltb-false)
      | in_default-via-else-ps-lt1+else-ps-lt2 w ↦ λ l. omega (arith, ltb-true, ltb-false)
    ]))
