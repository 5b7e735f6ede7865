-- Words that are sizes of trials.
use Rattle.std.proofs.Common.{◌≡◌, ℕ, ◌<◌, ◌≤◌, ◌^◌, Bool, true, false, zero, suc, List, [], ◌∷◌, Result, Ok, Err, length, get_or, refl, sym, ap, ◌∙◌, subst, arith}
use Rattle.std.specs.Prelude.{◌==◌, ◌&&◌, not}
use Rattle.std.specs.Char.{is_ascii_digit}
use Rattle.std.specs.Fmt.{decimal}
use Rattle.std.specs.List.{list_all}
use Rattle.std.specs.Str.{all_ascii_digits}
use Rattle.std.specs.Str.Parse.{ParsesUnsigned, digits_value}
use Rattle.std.specs.Result.{OkIff}
use Rattle.std.proofs.lemmas.Bool.{and_from, and_parts, both_ways, ne_eqb}
use Rattle.std.proofs.lemmas.Fmt.{decimal-digits_value, decimal_digit, digits_decimal, first_decimal, parse-decimal}
use Rattle.std.proofs.lemmas.Str.Parse.{IsNumeralModel, numerals_by_value, parse_digits, tells_all_ascii_digits}
use Rattle.owl_command.specs.Commands.{most_classes}
use Rattle.owl_command.specs.WordParts.{IsNoSizeWord, IsSizeWord, are_digits}

-- digits by their test
numerals : IsNumeralModel (λ ds. all_ascii_digits ds ≡ true) (digits_value 10)
numerals = numerals_by_value _ tells_all_ascii_digits

pub same_digits : (cs : List ℕ) → list_all is_ascii_digit cs ≡ all_ascii_digits cs
same_digits [] = refl
same_digits (c ∷ cs) = ap (λ b. is_ascii_digit c && b) (same_digits cs)

-- digits are all that is asked where no zero stands in front
pub digits_behind : (word : List ℕ) (all leading : Bool) → all ≡ list_all is_ascii_digit word → (get_or word 0 0 == 0x30) ≡ leading → not leading ≡ true → all ≡ are_digits word
digits_behind word all leading a z t =
    a ∙ same_digits word ∙ sym (ap (λ b. b && all_ascii_digits word) (ap not z ∙ t))

-- the first is no zero, and all are digits
test_parts : (word : List ℕ) → are_digits word ≡ true → (not (get_or word 0 0 == 0x30) ≡ true) × (all_ascii_digits word ≡ true)
test_parts word h = and_parts (not (get_or word 0 0 == 0x30)) (all_ascii_digits word) h

no_zero : (c : ℕ) → not (c == 0x30) ≡ true → c ≡ 0x30 → ⊥
no_zero c h e = both_ways (not (0x30 == 0x30)) refl (subst (λ x. not (x == 0x30) ≡ true) e h)

-- digits are written as the number that they are read as
pub size_read : {E : Type 0} (word : List ℕ) (r : Result ℕ E) (size : ℕ) → ParsesUnsigned 32 10 word r → are_digits word ≡ true → r ≡ Ok size → size ≤ most_classes → IsSizeWord word size
size_read word r size h test e few =
    let parts = test_parts word test in
    let read = subst (λ x. OkIff x ((0 < length word) × (digits_value 10 word < 2 ^ 32)) (digits_value 10 word)) e (parse_digits numerals 32 word r h parts.1) in
    let written : decimal size ≡ word = ap decimal read.1 ∙ decimal-digits_value numerals word parts.1 read.0.0 (λ z. absurd (no_zero (get_or word 0 0) parts.0 z)) (omega (arith, read.0.1)) in
    record { allowed = record { some = some_of size written; few = few }; written = sym written }
  where
    some_of : (n : ℕ) → decimal n ≡ word → 0 < n
    some_of zero w = absurd (no_zero (get_or word 0 0) (test_parts word test).0 (ap (λ ds. get_or ds 0 0) (sym w ∙ decimal_digit 0 (omega arith))))
    some_of (suc n) w = omega arith

written_digits : (word : List ℕ) (size : ℕ) → IsSizeWord word size → are_digits word ≡ true
written_digits word size is =
    let wide : size < 2 ^ 64 = omega (arith, is.allowed.few) in
    subst (λ ds. are_digits ds ≡ true) (sym is.written)
    (and_from (not (get_or (decimal size) 0 0 == 0x30)) (all_ascii_digits (decimal size))
    (ap not (ne_eqb (get_or (decimal size) 0 0) 0x30 (λ e. omega (arith, e, first_decimal size is.allowed.some wide))))
    (digits_decimal numerals size wide))

pub other_word : (word : List ℕ) → are_digits word ≡ false → IsNoSizeWord word
other_word word h size is = both_ways (are_digits word) h (written_digits word size is)

-- a size is read from what it is written as
pub size_written : {E : Type 0} (word : List ℕ) (r : Result ℕ E) (size : ℕ) → ParsesUnsigned 32 10 word r → IsSizeWord word size → r ≡ Ok size
size_written word r size h is =
    parse-decimal 32 size word r (omega (arith, is.allowed.few)) (omega (arith, is.allowed.few)) is.written h

same_value : {E : Type 0} (r : Result ℕ E) (m n : ℕ) → r ≡ Ok m → r ≡ Ok n → m ≡ n
same_value (Ok k) m n e f = cc
same_value (Err x) m n e f = absurd (cc)

-- a number that is too large is no size
pub too_large : {E : Type 0} (word : List ℕ) (r : Result ℕ E) (found : ℕ) → ParsesUnsigned 32 10 word r → r ≡ Ok found → (found ≤ most_classes → ⊥) → IsNoSizeWord word
too_large word r found h e large size is =
    large (subst (λ n. n ≤ most_classes) (same_value r size found (size_written word r size h is) e) is.allowed.few)

-- nor is what is read as no number
pub not_read : {E : Type 0} (word : List ℕ) (r : Result ℕ E) (fault : E) → ParsesUnsigned 32 10 word r → r ≡ Err fault → IsNoSizeWord word
not_read word r fault h e size is = let both : Ok size ≡ Err fault = sym (size_written word r size h is) ∙ e in absurd (cc)
