use Rattle.std.proofs.Common.{◌≡◌, ℕ, ◌^◌, ◌<◌, ◌≤◌, arith, lit<, refl}
use Rattle.std.proofs.Math.Nat.{pow-le-pow_right}
use Rattle.ttl_tokens.proofs.escapes.hex_number.Goals as goal

-- eight digits fit
few : (n i : ℕ) → n < 16 ^ i → i < 8 → n < 268435456
few n i h le =
    let up : i ≤ 7 = omega arith in
    let most : 16 ^ i ≤ 16 ^ 7 = pow-le-pow_right (lit< tt) up in
    let is : 16 ^ 7 ≡ 268435456 = refl in
    omega arith

pub overflow_mul-number : goal.overflow_mul-number
overflow_mul-number c =
    let digit = few c.loop-digit.number c.loop-digit.digit-index c.loop-digit.invariant.1 (omega (arith, c.loop-digit-test.true, c.requires)) in
    omega (arith, digit)

pub overflow_add-number : goal.overflow_add-number
overflow_add-number c =
    let digit = few c.loop-digit.number c.loop-digit.digit-index c.loop-digit.invariant.1 (omega (arith, c.loop-digit-test.true, c.requires)) in
    omega (arith, digit, c.hex_value.ensures.small)
