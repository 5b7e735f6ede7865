-- Numbers that digits write.
use Rattle.std.proofs.Common.{◌≡◌, ◌<◌, ◌≤◌, ◌^◌, ◌∷◌, [], ℕ, true, List, length, Result, Ok, Err, sym, subst, ◌∙◌, arith}
use Rattle.std.specs.Char.{digit_value, is_ascii_digit}
use Rattle.std.specs.Int.{IsInRange}
use Rattle.std.specs.Result.{OkIff}
use Rattle.std.specs.Str.{encode_utf8_all}
use Rattle.std.specs.Str.Parse.{AllDigits, IsNumeral, ParsesUnsigned, digits_value}
use Rattle.std.proofs.lemmas.Bool.Decides.{nat_tests}
use Rattle.std.proofs.lemmas.Fmt.{IsAscii-from_digits}
use Rattle.std.proofs.lemmas.Str.{digit_value_digit, encodes-IsAscii}
use Rattle.std.proofs.lemmas.Str.Parse.{numerals_by_value, parse_digits, tells_digits}
use Rattle.owl_characters.specs.Iri.{AllAre}
use Rattle.owl_characters.specs.Names.{IsRunOf}

digit_below : (c : ℕ) → is_ascii_digit c ≡ true → digit_value c < 10
digit_below c h =
    let range : IsInRange 48 57 c = grind (arith, nat_tests) in
    omega (arith, digit_value_digit c range)

digits_numeral : (ds : List ℕ) → AllAre is_ascii_digit ds → AllDigits 10 ds
digits_numeral [] h = tt
digits_numeral (d ∷ ds) h = (digit_below d h.0, digits_numeral ds h.1)

run_numeral : (ds : List ℕ) → IsRunOf is_ascii_digit ds → IsNumeral 10 ds
run_numeral [] h = absurd h
run_numeral (d ∷ ds) h = (omega arith, digits_numeral (d ∷ ds) h)

large_from : (n v : ℕ) → 0 < n → ((0 < n) × (v < 2 ^ 64) → ⊥) → 2 ^ 64 ≤ v
large_from n v some h = let g : v < 2 ^ 64 → ⊥ = λ k. h (some, k) in omega arith

own_bytes : (bytes digits : List ℕ) → bytes ≡ encode_utf8_all digits → IsRunOf is_ascii_digit digits → bytes ≡ digits
own_bytes bytes digits e run = e ∙ encodes-IsAscii digits (IsAscii-from_digits digits (run_numeral digits run).1)

parsed : {E : Type 0} (bytes digits : List ℕ) (r : Result ℕ E) → bytes ≡ encode_utf8_all digits → IsRunOf is_ascii_digit digits → ParsesUnsigned 64 10 bytes r → OkIff r ((0 < length digits) × (digits_value 10 digits < 2 ^ 64)) (digits_value 10 digits)
parsed bytes digits r e run h =
    parse_digits (numerals_by_value (AllDigits 10) tells_digits) 64 digits r (subst (λ (x : List ℕ). ParsesUnsigned 64 10 x r) (own_bytes bytes digits e run) h) (run_numeral digits run).1

pub number_value : {E : Type 0} (bytes digits : List ℕ) (r : Result ℕ E) (n : ℕ) → r ≡ Ok n → bytes ≡ encode_utf8_all digits → IsRunOf is_ascii_digit digits → ParsesUnsigned 64 10 bytes r → (n ≡ digits_value 10 digits) × (n < 2 ^ 64)
number_value bytes digits r n is e run h =
    let p = subst (λ x. OkIff x ((0 < length digits) × (digits_value 10 digits < 2 ^ 64)) (digits_value 10 digits)) is (parsed bytes digits r e run h) in
    (p.1, subst (λ (x : ℕ). x < 2 ^ 64) (sym p.1) p.0.1)

pub number_large : {E : Type 0} (bytes digits : List ℕ) (r : Result ℕ E) (fault : E) → r ≡ Err fault → bytes ≡ encode_utf8_all digits → IsRunOf is_ascii_digit digits → ParsesUnsigned 64 10 bytes r → 2 ^ 64 ≤ digits_value 10 digits
number_large bytes digits r fault is e run h =
    large_from (length digits) (digits_value 10 digits) (run_numeral digits run).0
    (subst (λ x. OkIff x ((0 < length digits) × (digits_value 10 digits < 2 ^ 64)) (digits_value 10 digits)) is (parsed bytes digits r e run h))
