-- The forms of the integer datatypes, and the numbers that they stand for.
use Rattle.std.proofs.Common.{◌≡◌, ℕ, zero, suc, ◌<◌, ◌↔◌, Bool, true, false, not, cond, List, Option, Some, refl, sym, ap, ◌∙◌, subst, arith, lit<}
use Rattle.std.specs.Prelude.{◌^◌, ℤ, pos, neg_ℤ, ◌≤ℤ◌, IfSome, IsTrue}
use lib.IntN.{negsuc}
use mir.Syntax.{Width}
use lib.Signed.{le_z}
use mir.Val.{hbits, of_z, to_z}
use Rattle.std.specs.Char.{is_ascii_digit}
use Rattle.std.specs.Int.RustNames.{FitsSigned}
use Rattle.std.specs.Str.{IsAscii, IsUtf8, chars}
use Rattle.std.specs.Str.Parse.{IsNumeral, digits_value, signed_digits_value, starts_with_minus, without_leading_sign}
use Rattle.std.proofs.lemmas.Bool.{false≢true}
use Rattle.std.proofs.lemmas.Fmt.{IsAscii-from_digits}
use Rattle.std.proofs.lemmas.Int.{ints, to_z-of_z}
use Rattle.std.proofs.lemmas.Str.{encodes-chars, encodes-IsAscii}
use Rattle.std.proofs.lemmas.Str.Ascii.{IsAscii-cons}
use Rattle.owl_characters.specs.Names.{IsRunOf}
use Rattle.rdf_terms.proofs.LexicalForms.{Signs, minus, plus, bare, run_numeral, signs}

-- a run of digits behind a sign is ASCII: its bytes are its characters
ascii_by : (cs : List ℕ) → Signs cs → IsRunOf is_ascii_digit (without_leading_sign cs) → IsAscii cs
ascii_by cs (minus rest e) run =
    subst IsAscii (sym e) (IsAscii-cons 45 rest (lit< tt) (IsAscii-from_digits rest (run_numeral rest (subst (λ x. IsRunOf is_ascii_digit (without_leading_sign x)) e run)).1))
ascii_by cs (plus rest e) run =
    subst IsAscii (sym e) (IsAscii-cons 43 rest (lit< tt) (IsAscii-from_digits rest (run_numeral rest (subst (λ x. IsRunOf is_ascii_digit (without_leading_sign x)) e run)).1))
ascii_by cs (bare u) run = IsAscii-from_digits cs (run_numeral cs (subst (IsRunOf is_ascii_digit) u.whole run)).1

pub run_ascii : (cs : List ℕ) → IsRunOf is_ascii_digit (without_leading_sign cs) → IsAscii cs
run_ascii cs run = ascii_by cs (signs cs) run

-- the same of a text whose characters are such a run
pub plain_text : (bs : List ℕ) → IsUtf8 bs → IsRunOf is_ascii_digit (without_leading_sign (chars bs)) → chars bs ≡ bs
plain_text bs u run = sym (encodes-IsAscii (chars bs) (run_ascii (chars bs) run)) ∙ encodes-chars bs u

-- A number that does not fit the width is outside each bound that fits.

record Apart (a b : ℤ) : Type 0 where
  pub most : a ≤ℤ b
  pub apart : b ≤ℤ a → ⊥

below_each : (w : Width) (n : ℕ) (z : ℤ) → (FitsSigned w (neg_ℤ (pos n)) → ⊥) → FitsSigned w z → Apart (neg_ℤ (pos n)) z
below_each w zero z out fits = absurd (out (record { sfits = omega (arith, fits.sfits) }))
below_each w (suc n) (pos m) out fits = record { most = omega (arith, ints); apart = λ h. omega (arith, ints) }
below_each w (suc n) (negsuc m) out fits =
    let o : n < 2 ^ hbits w → ⊥ = λ k. out (record { sfits = k }) in
    let f : m < 2 ^ hbits w = fits.sfits in
    record { most = omega (arith, ints); apart = λ h. omega (arith, ints) }

above_each : (w : Width) (n : ℕ) (z : ℤ) → (FitsSigned w (pos n) → ⊥) → FitsSigned w z → Apart z (pos n)
above_each w n (pos m) out fits =
    let o : n < 2 ^ hbits w → ⊥ = λ k. out (record { sfits = k }) in
    let f : m < 2 ^ hbits w = fits.sfits in
    record { most = omega (arith, ints); apart = λ h. omega (arith, ints) }
above_each w n (negsuc m) out fits = record { most = omega (arith, ints); apart = λ h. omega (arith, ints) }

-- a number with its sign
abbrev with_sign : Bool → ℕ → ℤ
with_sign below n = cond below (neg_ℤ (pos n)) (pos n)

least_by : (w : Width) (least : ℤ) (below : Bool) (n : ℕ) → FitsSigned w least → (FitsSigned w (with_sign below n) → ⊥) → IsTrue (not below) ↔ (least ≤ℤ with_sign below n)
least_by w least true n fits out = (λ t. absurd (false≢true t), λ h. absurd ((below_each w n least out fits).apart h))
least_by w least false n fits out = (λ t. (above_each w n least out fits).most, λ h. refl)

greatest_by : (w : Width) (greatest : ℤ) (below : Bool) (n : ℕ) → FitsSigned w greatest → (FitsSigned w (with_sign below n) → ⊥) → IsTrue below ↔ (with_sign below n ≤ℤ greatest)
greatest_by w greatest true n fits out = (λ t. (below_each w n greatest out fits).most, λ h. refl)
greatest_by w greatest false n fits out = (λ t. absurd (false≢true t), λ h. absurd ((above_each w n greatest out fits).apart h))

-- the text is no numeral of a number that fits
abbrev pub NoNumber : Width → List ℕ → Type 0
NoNumber w bs = IsNumeral 10 (without_leading_sign bs) × FitsSigned w (signed_digits_value 10 bs) → ⊥

unfit : (w : Width) (bs : List ℕ) → NoNumber w bs → IsRunOf is_ascii_digit (without_leading_sign bs) → FitsSigned w (signed_digits_value 10 bs) → ⊥
unfit w bs none run fits = none (run_numeral (without_leading_sign bs) run, fits)

pub least_of : (w : Width) (least : ℤ) (bs : List ℕ) (below : Bool) → IsUtf8 bs → FitsSigned w least → NoNumber w bs → below ≡ starts_with_minus bs → IsRunOf is_ascii_digit (without_leading_sign (chars bs)) → IsTrue (not below) ↔ (least ≤ℤ signed_digits_value 10 (chars bs))
least_of w least bs below u fits none e run =
    let same = plain_text bs u run in
    let plain : IsRunOf is_ascii_digit (without_leading_sign bs) = subst (λ x. IsRunOf is_ascii_digit (without_leading_sign x)) same run in
    subst (λ b. IsTrue (not b) ↔ (least ≤ℤ signed_digits_value 10 (chars bs))) (sym e)
    (subst (λ x. IsTrue (not (starts_with_minus bs)) ↔ (least ≤ℤ signed_digits_value 10 x)) (sym same)
    (least_by w least (starts_with_minus bs) (digits_value 10 (without_leading_sign bs)) fits (unfit w bs none plain)))

pub greatest_of : (w : Width) (greatest : ℤ) (bs : List ℕ) (below : Bool) → IsUtf8 bs → FitsSigned w greatest → NoNumber w bs → below ≡ starts_with_minus bs → IsRunOf is_ascii_digit (without_leading_sign (chars bs)) → IsTrue below ↔ (signed_digits_value 10 (chars bs) ≤ℤ greatest)
greatest_of w greatest bs below u fits none e run =
    let same = plain_text bs u run in
    let plain : IsRunOf is_ascii_digit (without_leading_sign bs) = subst (λ x. IsRunOf is_ascii_digit (without_leading_sign x)) same run in
    subst (λ b. IsTrue b ↔ (signed_digits_value 10 (chars bs) ≤ℤ greatest)) (sym e)
    (subst (λ x. IsTrue (starts_with_minus bs) ↔ (signed_digits_value 10 x ≤ℤ greatest)) (sym same)
    (greatest_by w greatest (starts_with_minus bs) (digits_value 10 (without_leading_sign bs)) fits (unfit w bs none plain)))

-- the number that the bytes spell is that of the characters
pub number_of : (bs : List ℕ) (number : ℤ) → IsUtf8 bs → number ≡ signed_digits_value 10 bs → IsRunOf is_ascii_digit (without_leading_sign (chars bs)) → number ≡ signed_digits_value 10 (chars bs)
number_of bs number u e run = e ∙ ap (λ x. signed_digits_value 10 x) (sym (plain_text bs u run))

-- tests of numbers, as the code makes them
le_test : (a b : ℤ) → IsTrue (le_z a b) ↔ (a ≤ℤ b)
le_test a b = (λ t. grind (arith, ints), λ h. grind (arith, ints))

pub bound_test : (w : Width) (a b c d : ℤ) → FitsSigned w a → FitsSigned w b → a ≡ c → b ≡ d → IsTrue (le_z (to_z w (of_z w a)) (to_z w (of_z w b))) ↔ (c ≤ℤ d)
bound_test w a b c d fa fb e f =
    subst (λ x. IsTrue x ↔ (c ≤ℤ d)) (sym (ap (λ x. le_z x (to_z w (of_z w b))) (to_z-of_z w a fa ∙ e) ∙ ap (λ x. le_z c x) (to_z-of_z w b fb ∙ f))) (le_test c d)

pub if_bound : (bound : Option ℤ) (b : ℤ) (P : ℤ → Type 0) (r : Bool) → bound ≡ Some b → IsTrue r ↔ P b → IsTrue r ↔ IfSome bound P
if_bound bound b P r e h = subst (λ x. IsTrue r ↔ IfSome x P) (sym e) h
