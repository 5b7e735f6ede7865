-- Counted digits as they are read, in bytes and in characters.
use Rattle.std.proofs.Common.{◌≡◌, ℕ, ◌<◌, ◌^◌, Bool, true, false, cond, List, Result, refl, sym, ap, ◌∙◌, arith}
use Rattle.std.specs.Result.{result_unwrap_or}
use Rattle.std.specs.Str.{IsAscii, IsUtf8, chars}
use Rattle.std.specs.Str.Parse.{ParsesUnsigned, digits_value}
use Rattle.std.proofs.lemmas.Fmt.{IsAscii-from_digits}
use Rattle.std.proofs.lemmas.Str.{chars-IsAscii, encodes-IsAscii, encodes-chars}
use Rattle.std.proofs.lemmas.Str.Parse.{digits_value_short, parse_gives}
use Rattle.blank_labels.specs.Labels.{are_counted, counted_number}
use Rattle.blank_labels.proofs.LabelLaws.{counted_parts, numerals}

-- counted digits are parsed as their number
pub number_read : {E : Type 0} (ds : List ℕ) (r : Result ℕ E) → ParsesUnsigned 64 10 ds r → are_counted ds ≡ true → result_unwrap_or r 0 ≡ counted_number ds
number_read ds r h counted =
    let parts = counted_parts ds counted in
    let small : digits_value 10 ds < 10 ^ 18 = digits_value_short numerals ds 18 parts.digits parts.few in
    ap (λ x. result_unwrap_or x 0) (parse_gives numerals 64 ds r h parts.digits parts.some (omega arith))
    ∙ sym (ap (λ b. cond b (digits_value 10 ds) 0) counted)

counted_ascii : (ds : List ℕ) → are_counted ds ≡ true → IsAscii ds
counted_ascii ds h = IsAscii-from_digits ds (numerals.to ds (counted_parts ds h).digits)

-- where one of two lists is counted, they are the same
same_number : (xs ys : List ℕ) (a b : Bool) → are_counted xs ≡ a → are_counted ys ≡ b → (a ≡ true → xs ≡ ys) → (b ≡ true → xs ≡ ys) → counted_number xs ≡ counted_number ys
same_number xs ys true b e f h k = ap counted_number (h refl)
same_number xs ys false true e f h k = ap counted_number (k refl)
same_number xs ys false false e f h k = ap (λ t. cond t (digits_value 10 xs) 0) e ∙ sym (ap (λ t. cond t (digits_value 10 ys) 0) f)

-- digits are counted alike by their bytes and by their characters
pub counted_alike : (bs : List ℕ) → IsUtf8 bs → counted_number bs ≡ counted_number (chars bs)
counted_alike bs u =
    same_number bs (chars bs) _ _ refl refl
    (λ t. sym (chars-IsAscii bs (counted_ascii bs t)))
    (λ t. sym (encodes-chars bs u) ∙ encodes-IsAscii (chars bs) (counted_ascii (chars bs) t))
