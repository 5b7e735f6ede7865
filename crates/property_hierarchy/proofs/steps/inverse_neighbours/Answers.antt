use Rattle.std.proofs.Common.{false, ◌≡◌, ◌≤◌, ℕ, length, arith, ap, sym, ◌∙◌, [], ◌∷◌, get_or}
use borrow.Author.Tests.{ltb-false, ltb-true}
use Rattle.std.proofs.lemmas.Result.{IfOk-weaker}
use Rattle.dl_rules.specs.Properties.{neighbours}
use Rattle.property_hierarchy.specs.Numbers.{inverse_number}
use Rattle.property_hierarchy.specs.declared.numbers.PropertyNumber.{PropertyNumber}
use Rattle.property_hierarchy.proofs.Stepping.{inverses_none, inverses_over, own_inverse_over}
use Rattle.property_hierarchy.proofs.steps.inverse_neighbours.Goals as goal
use Rattle.property_hierarchy.proofs.steps.inverse_neighbours.Goals.{in_default-via-then-ps-lt1, in_default-via-else-ps-lt1+else-ps-lt2+else-ps-lt3}

pub returns-in-len1 : goal.returns-in-len1
returns-in-len1 c =
    let d : PropertyNumber = record { place = 0; inverted = false } in
    IfOk-weaker c.neighbours.result _ _
    (λ steps e. e ∙ (ap (λ (n : PropertyNumber). neighbours (get_or c.args.ps.now 0 d ∷ n ∷ [])) c.inverse.ensures ∙ sym (own_inverse_over inverse_number c.args.ps.now d c.in-len1.len_at_least c.in-len1.len_below)))
    c.neighbours.ensures

pub returns-in-len2 : goal.returns-in-len2
returns-in-len2 c =
    let d : PropertyNumber = record { place = 0; inverted = false } in
    IfOk-weaker c.neighbours-in-len2.result _ _
    (λ steps e. e ∙ (ap (λ (n : PropertyNumber). neighbours (get_or c.args.ps.now 0 d ∷ n ∷ [])) c.inverse-in-len2.ensures ∙ sym (inverses_over inverse_number c.args.ps.now d c.in-len2.len_at_least c.in-len2.len_below)))
    c.neighbours-in-len2.ensures

pub returns-in_default : goal.returns-in_default
returns-in_default c =
    let other : (n : ℕ) → 1 ≤ n → n ≤ 2 → length c.args.ps.now ≡ n → ⊥ = λ n low high. elim c.in_default.branch [
      | in_default-via-then-ps-lt1 w ↦ λ l. omega (arith, ltb-true, ltb-false)
      | in_default-via-else-ps-lt1+else-ps-lt2+else-ps-lt3 w ↦ λ l. omega (arith, ltb-true, ltb-false)
    ] in
    c.new.ensures.items ∙ sym (inverses_none inverse_number c.args.ps.now (other 1 (omega arith) (omega arith)) (other 2 (omega arith) (omega arith)))
