-- Labels of numbers are labels, they differ from each other, and they are counted.
use Rattle.std.proofs.Common.{◌≡◌, ℕ, ◌<◌, ◌≤◌, ◌^◌, true, false, cond, List, [], ◌∷◌, ◌++◌, length, drop, get_or, refl, sym, ap, ◌∙◌, subst, arith}
use Rattle.std.specs.Prelude.{◌==◌, ◌&&◌, nat_eq, nat_le, not, codes}
use Rattle.std.specs.Char.{is_ascii_digit}
use Rattle.std.specs.Int.{is_in_range}
use Rattle.std.specs.Fmt.{decimal}
use Rattle.std.specs.List.{list_all, starts_with}
use Rattle.std.specs.Str.Parse.{digits_value}
use Rattle.std.proofs.lemmas.Bool.{and_from, and_parts, both_ways, cond_both, le-leb, leb-true, ne_eqb, or_from, or_left, or_right, true≢false}
use Rattle.std.proofs.lemmas.Fmt.{decimal_is_IsNumeral_wide, decimal_nonempty, digits_decimal, digits_value-decimal, first_decimal, length-decimal-le}
use Rattle.std.proofs.lemmas.Str.Parse.{IsDigitsTest, IsNumeralModel, digits_value_short, numerals_by_value}
use Rattle.owl_characters.proofs.AllAreLaws.{AllAre-weaker, all_are}
use Rattle.owl_characters.specs.Iri.{is_among}
use Rattle.owl_characters.specs.Names.{IsLabel, ends_in_dot, in_ranges, is_inner, is_part, is_start, part_ranges}
use Rattle.blank_labels.specs.Labels.{are_counted, counted_number, label_number, labelled}

-- Digits that are counted.

are_digits : IsDigitsTest (λ ds. list_all is_ascii_digit ds ≡ true)
are_digits = record {
  empty = refl;
  parts = λ c cs h.
      let both = and_parts (is_ascii_digit c) (list_all is_ascii_digit cs) h in
      let range = and_parts (nat_le 48 c) (nat_le c 57) both.0 in
      ((leb-true 48 c range.0, leb-true c 57 range.1), both.1);
  more = λ c cs range h.
      and_from (is_ascii_digit c) (list_all is_ascii_digit cs) (and_from (nat_le 48 c) (nat_le c 57) (le-leb 48 c range.0) (le-leb c 57 range.1)) h;
}

-- digits by their test, as a number is read from them and written in them
pub numerals : IsNumeralModel (λ ds. list_all is_ascii_digit ds ≡ true) (digits_value 10)
numerals = numerals_by_value _ are_digits

pub record IsCounted (ds : List ℕ) : Type 0 where
  pub some : 0 < length ds
  pub few : length ds ≤ 18
  pub digits : list_all is_ascii_digit ds ≡ true

pub counted_parts : (ds : List ℕ) → are_counted ds ≡ true → IsCounted ds
counted_parts [] h = absurd (both_ways false refl h)
counted_parts (d ∷ ds) h =
    let rest = (and_parts (not (d == 0x30)) _ h).1 in
    let both = and_parts (nat_le (length (d ∷ ds)) 18) (list_all is_ascii_digit (d ∷ ds)) rest in
    record { some = omega arith; few = leb-true (length (d ∷ ds)) 18 both.0; digits = both.1 }

pub counted_where : (ds : List ℕ) → (length ds == 0) ≡ false → (get_or ds 0 0 == 0x30) ≡ false → length ds ≤ 18 → are_counted ds ≡ list_all is_ascii_digit ds
counted_where [] some first few = absurd (true≢false some)
counted_where (d ∷ ds) some first few =
    ap (λ b. not b && (nat_le (length (d ∷ ds)) 18 && list_all is_ascii_digit (d ∷ ds))) first
    ∙ ap (λ b. b && list_all is_ascii_digit (d ∷ ds)) (le-leb (length (d ∷ ds)) 18 few)

pub counted_below : (ds : List ℕ) → counted_number ds < 10 ^ 18
counted_below ds = cond_both (are_counted ds) (digits_value 10 ds) 0 (λ n. n < 10 ^ 18) (λ h. let parts = counted_parts ds h in digits_value_short numerals ds 18 parts.digits parts.few) (λ _. omega arith)

pub label_number_below : (label : List ℕ) → label_number label < 10 ^ 18
label_number_below label = cond_both (starts_with nat_eq label (codes "gen")) (counted_number (drop 3 label)) 0 (λ n. n < 10 ^ 18) (λ _. counted_below (drop 3 label)) (λ _. omega arith)

-- the digits that a number above 0 is written in
counted_decimal : (n : ℕ) → 0 < n → n < 10 ^ 18 → are_counted (decimal n) ≡ true
counted_decimal n some small =
    let wide : n < 2 ^ 64 = omega arith in
    let first = first_decimal n some wide in
    let nonempty = decimal_nonempty n wide in
    counted_where (decimal n) (ne_eqb (length (decimal n)) 0 (λ e. omega arith)) (ne_eqb (get_or (decimal n) 0 0) 0x30 (λ e. omega arith))
    (length-decimal-le 18 n (omega arith) small wide)
    ∙ digits_decimal numerals n wide

-- Labels of numbers.

-- they are counted, with their numbers
pub counted : (n : ℕ) → 0 < n → n < 10 ^ 18 → label_number (labelled n) ≡ n
counted n some small = ap (λ b. cond b (digits_value 10 (decimal n)) 0) (counted_decimal n some small) ∙ digits_value-decimal numerals n (omega arith)

digit_inner : (c : ℕ) → is_ascii_digit c ≡ true → is_inner c ≡ true
digit_inner c h =
    or_left (is_part c) (is_among (codes ".") c)
    (or_right (is_start c) (in_ranges part_ranges c) (or_right (is_in_range 0x2D 0x2D c) _ (or_left (is_in_range 0x30 0x39 c) _ h)))

digit_no_dot : (c : ℕ) → is_ascii_digit c ≡ true → is_among (codes ".") c ≡ false
digit_no_dot c h = or_from (0x2E == c) false (ne_eqb 0x2E c (λ e. both_ways (is_ascii_digit 0x2E) refl (subst (λ x. is_ascii_digit x ≡ true) (sym e) h))) refl

digits_no_dot : (ds : List ℕ) → list_all is_ascii_digit ds ≡ true → ends_in_dot ds ≡ false
digits_no_dot [] h = refl
digits_no_dot (c ∷ []) h = digit_no_dot c (and_parts (is_ascii_digit c) true h).0
digits_no_dot (c ∷ d ∷ ds) h = digits_no_dot (d ∷ ds) (and_parts (is_ascii_digit c) (list_all is_ascii_digit (d ∷ ds)) h).1

pub label_of_digits : (ds : List ℕ) → list_all is_ascii_digit ds ≡ true → IsLabel (codes "gen" ++ ds)
label_of_digits [] h = (refl, (refl, (refl, tt)), refl)
label_of_digits (d ∷ ds) h =
    let inner = AllAre-weaker is_ascii_digit is_inner digit_inner (d ∷ ds) ((all_are is_ascii_digit (d ∷ ds)).0 h) in
    (refl, (refl, (refl, inner)), digits_no_dot (d ∷ ds) h)

pub decimal_digits : (n : ℕ) → n < 10 ^ 64 → list_all is_ascii_digit (decimal n) ≡ true
decimal_digits n small = numerals.from (decimal n) (decimal_is_IsNumeral_wide n small).0.1

pub value_back : (n : ℕ) → n < 10 ^ 64 → digits_value 10 (drop 3 (labelled n)) ≡ n
value_back n small = (decimal_is_IsNumeral_wide n small).1

-- numbers that differ have labels that do; a number is written with at most 64 digits
pub same_labelled : (m n : ℕ) → m < 10 ^ 64 → n < 10 ^ 64 → labelled m ≡ labelled n → m ≡ n
same_labelled m n a b e = sym (value_back m a) ∙ ap (λ l. digits_value 10 (drop 3 l)) e ∙ value_back n b
