-- Texts of digits, and what they write.
use Rattle.std.proofs.Common.{◌≡◌, ◌<◌, ◌≤◌, ◌^◌, ◌∷◌, [], ℕ, true, not, List, length, Result, Ok, Err, nat_eq, refl, sym, ap, subst, ◌∙◌, arith}
use Rattle.std.specs.Prelude.{nat_lt}
use Rattle.std.specs.Bool.{one_answer}
use Rattle.std.specs.Char.{digit_value, is_ascii_digit}
use Rattle.std.specs.Int.{IsInRange}
use Rattle.std.specs.List.{list_all}
use Rattle.std.specs.Result.{OkIff}
use Rattle.std.specs.Str.{IsUtf8, chars, encode_utf8_all}
use Rattle.std.specs.Str.Parse.{AllDigits, ParsesUnsigned, digits_value}
use Rattle.std.proofs.lemmas.Bool.{and_parts, cond-false, cond-true, eqb-true, le-ltb, lt-ltb}
use Rattle.std.proofs.lemmas.Bool.Decides.{nat_tests}
use Rattle.std.proofs.lemmas.Fmt.{IsAscii-from_digits}
use Rattle.std.proofs.lemmas.Str.{chars-nil, digit_value_digit, encodes-IsAscii, encodes-chars}
use Rattle.std.proofs.lemmas.Str.Parse.{numerals_by_value, parse_digits, tells_digits}
use Rattle.rdf_meaning.specs.Denotation.{is_digits}
use Rattle.rdf_rows.specs.Cardinalities.{cardinality}
use Rattle.rdf_rows.specs.declared.literals.Cardinality.TheVariants.{Number, TooLarge}

empty_from : (xs : List ℕ) → nat_eq (length xs) 0 ≡ true → xs ≡ []
empty_from [] h = refl
empty_from (x ∷ xs) h = absurd (let e = eqb-true (length (x ∷ xs)) 0 h in omega arith)

-- a text has bytes where it has characters
pub same_emptiness : (text : List ℕ) → IsUtf8 text → nat_eq (length text) 0 ≡ nat_eq (length (chars text)) 0
same_emptiness text u =
    one_answer (nat_eq (length text) 0) (nat_eq (length (chars text)) 0)
    (λ h. ap chars (empty_from text h) ∙ chars-nil, λ e. ap (λ (x : List ℕ). nat_eq (length x) 0) (sym (encodes-chars text u) ∙ ap encode_utf8_all e))
    (empty_from (chars text), λ e. ap (λ (x : List ℕ). nat_eq (length x) 0) e)

digit_below : (c : ℕ) → is_ascii_digit c ≡ true → digit_value c < 10
digit_below c h =
    let range : IsInRange 48 57 c = grind (arith, nat_tests) in
    omega (arith, digit_value_digit c range)

all_digits : (cs : List ℕ) → list_all is_ascii_digit cs ≡ true → AllDigits 10 cs
all_digits [] h = tt
all_digits (c ∷ cs) h = let both = and_parts (is_ascii_digit c) (list_all is_ascii_digit cs) h in (digit_below c both.0, all_digits cs both.1)

some_length : (cs : List ℕ) → not (nat_eq (length cs) 0) ≡ true → 0 < length cs
some_length [] h = cc
some_length (c ∷ cs) h = omega arith

large_from : (n v : ℕ) → 0 < n → ((0 < n) × (v < 2 ^ 64) → ⊥) → 2 ^ 64 ≤ v
large_from n v some h = let g : v < 2 ^ 64 → ⊥ = λ k. h (some, k) in omega arith

module _ {E : Type 0} (text : List ℕ) (u : IsUtf8 text) (digits : is_digits (chars text) ≡ true) (r : Result ℕ E) (parsed : ParsesUnsigned 64 10 text r) where
  read : OkIff r ((0 < length (chars text)) × (digits_value 10 (chars text) < 2 ^ 64)) (digits_value 10 (chars text))
  read =
      let cs = chars text in
      let all = all_digits cs (and_parts (not (nat_eq (length cs) 0)) (list_all is_ascii_digit cs) digits).1 in
      let own : text ≡ cs = sym (encodes-chars text u) ∙ encodes-IsAscii cs (IsAscii-from_digits cs all) in
      parse_digits (numerals_by_value (AllDigits 10) tells_digits) 64 cs r (subst (λ (x : List ℕ). ParsesUnsigned 64 10 x r) own parsed) all

  pub number_read : (n : ℕ) → r ≡ Ok n → Number n ≡ cardinality (digits_value 10 (chars text))
  number_read n is =
      let value = digits_value 10 (chars text) in
      let p = subst (λ x. OkIff x ((0 < length (chars text)) × (value < 2 ^ 64)) value) is read in
      ap Number p.1 ∙ sym (cond-true (nat_lt value (2 ^ 64)) (Number value) TooLarge (lt-ltb value (2 ^ 64) p.0.1))

  pub too_large : (fault : E) → r ≡ Err fault → TooLarge ≡ cardinality (digits_value 10 (chars text))
  too_large fault is =
      let cs = chars text in
      let value = digits_value 10 cs in
      let some = some_length cs (and_parts (not (nat_eq (length cs) 0)) (list_all is_ascii_digit cs) digits).0 in
      let large = large_from (length cs) value some (subst (λ x. OkIff x ((0 < length cs) × (value < 2 ^ 64)) value) is read) in
      sym (cond-false (nat_lt value (2 ^ 64)) (Number value) TooLarge (le-ltb value (2 ^ 64) large))
