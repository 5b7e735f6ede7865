-- What classes are in sets that are made of others.
use Rattle.std.proofs.Common.{◌≡◌, ℕ, ◌<◌, ◌≤◌, ◌^◌, zero, suc, ◌⊎◌, inl, inr, true, ap, refl, arith}
use Rattle.std.proofs.Math.Nat.{lt_of_not-le}
use Rattle.std.proofs.lemmas.Bool.{eqb-true}
use Rattle.std.proofs.lemmas.Nat.Bits.{bit_at-lt, bit_at-pow_same, bit_at-zero, bit_at_above, bit_at_and, bit_at_or}
use Rattle.std.specs.Int.{bit_at}
use Rattle.std.specs.Prelude.{bit_and, bit_or}
use Rattle.grammar.specs.ClassSets.{Has, are_apart, is_within}

is_bit : (n : ℕ) → n < 2 → (n ≡ 0) ⊎ (n ≡ 1)
is_bit zero h = inl refl
is_bit (suc zero) h = inr refl
is_bit (suc (suc n)) h = absurd (omega arith)

pub has_same : (c : ℕ) → Has (2 ^ c) c
has_same c = record { bit = bit_at-pow_same c }

pub has_none : (c : ℕ) → Has 0 c → ⊥
has_none c h =
    let e = bit_at-zero c in
    let one = h.bit in
    omega arith

pub has_left : (a b c : ℕ) → Has a c → Has (bit_or a b) c
has_left a b c h =
    let e = bit_at_or a b c in
    let below = bit_at-lt b c in
    let one = h.bit in
    record { bit = omega arith }

pub has_right : (a b c : ℕ) → Has b c → Has (bit_or a b) c
has_right a b c h =
    let e = bit_at_or a b c in
    let below = bit_at-lt a c in
    let one = h.bit in
    record { bit = omega arith }

has_one : (a b c : ℕ) → Has (bit_or a b) c → (bit_at a c ≡ 0) ⊎ (bit_at a c ≡ 1) → Has a c ⊎ Has b c
has_one a b c h (inl e) =
    let both = bit_at_or a b c in
    let one = h.bit in
    inr (record { bit = omega arith })
has_one a b c h (inr e) = inl (record { bit = e })

pub has_either : (a b c : ℕ) → Has (bit_or a b) c → Has a c ⊎ Has b c
has_either a b c h = has_one a b c h (is_bit (bit_at a c) (bit_at-lt a c))

pub has_within : (a b : ℕ) → is_within a b ≡ true → (c : ℕ) → Has a c → Has b c
has_within a b test c h =
    let same : bit_at (bit_and a b) c ≡ bit_at a c = ap (λ (n : ℕ). bit_at n c) (eqb-true (bit_and a b) a test) in
    let both = bit_at_and a b c in
    let below = bit_at-lt b c in
    let one = h.bit in
    record { bit = omega arith }

pub has_one_of : (a b : ℕ) → are_apart a b ≡ true → (c : ℕ) → Has a c → Has b c → ⊥
has_one_of a b test c h k =
    let same : bit_at (bit_and a b) c ≡ bit_at 0 c = ap (λ (n : ℕ). bit_at n c) (eqb-true (bit_and a b) 0 test) in
    let both = bit_at_and a b c in
    let none = bit_at-zero c in
    let one = h.bit in
    let other = k.bit in
    omega arith

-- a set of 128 bits has no class beyond them
pub has_below : (set c : ℕ) → set < 2 ^ 128 → Has set c → c < 128
has_below set c bound h = lt_of_not-le (λ (above : 128 ≤ c).
    let none = bit_at_above set 128 c bound above in
    let one = h.bit in
    omega arith)
