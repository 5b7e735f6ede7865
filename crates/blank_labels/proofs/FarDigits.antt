-- Numbers of 19 digits, in bytes and in characters.
use Rattle.std.proofs.Common.{◌≡◌, ℕ, ◌<◌, ◌^◌, Bool, true, false, cond, List, Some, None, Result, Ok, drop, length, get_or, refl, sym, ap, ◌∙◌, subst, arith}
use Rattle.std.specs.Prelude.{codes, ◌==◌, nat_eq, not}
use Rattle.std.specs.Char.{is_ascii_digit}
use Rattle.std.specs.List.{list_all}
use Rattle.std.specs.Str.{IsAscii, IsUtf8, all_scalars, chars, encode_utf8_all}
use Rattle.std.specs.Str.Parse.{ParsesUnsigned, digits_value}
use Rattle.std.specs.Str.Pattern.{FindsTextPrefix, StripsPrefix}
use Rattle.std.proofs.lemmas.Bool.{and_parts, eqb-true}
use Rattle.std.proofs.lemmas.Fmt.{IsAscii-from_digits}
use Rattle.std.proofs.lemmas.Str.{chars-IsAscii, encodes-IsAscii, encodes-chars}
use Rattle.std.proofs.lemmas.Str.Parse.{digits_value_short, parse_gives}
use Rattle.std.proofs.lemmas.Str.Pattern.{starts_text}
use Rattle.owl_characters.proofs.AsciiLaws.{front_is}
use Rattle.blank_labels.proofs.LabelLaws.{numerals}
use Rattle.blank_labels.specs.FreshLabels.{are_far, far_in, far_number}
use Rattle.blank_labels.proofs.Prefixes.{gen_behind}

pub record IsFar (ds : List ℕ) : Type 0 where
  pub many : length ds ≡ 19
  pub digits : list_all is_ascii_digit ds ≡ true

far_parts : (ds : List ℕ) → are_far ds ≡ true → IsFar ds
far_parts ds h =
    let both = and_parts (nat_eq (length ds) 19) _ h in
    record { many = eqb-true (length ds) 19 both.0; digits = (and_parts (not (nat_eq (get_or ds 0 0) 0x30)) (list_all is_ascii_digit ds) both.1).1 }

-- such digits are parsed as their number
pub far_read : {E : Type 0} (ds : List ℕ) (r : Result ℕ E) → ParsesUnsigned 64 10 ds r → are_far ds ≡ true → r ≡ Ok (digits_value 10 ds)
far_read ds r h far =
    let parts = far_parts ds far in
    let small : digits_value 10 ds < 10 ^ 19 = digits_value_short numerals ds 19 parts.digits (omega (arith, parts.many)) in
    parse_gives numerals 64 ds r h parts.digits (omega (arith, parts.many)) (omega (arith, small))

far_ascii : (ds : List ℕ) → are_far ds ≡ true → IsAscii ds
far_ascii ds h = IsAscii-from_digits ds (numerals.to ds (far_parts ds h).digits)

-- where one of two lists is far, they are the same
same_number : (xs ys : List ℕ) (a b : Bool) → are_far xs ≡ a → are_far ys ≡ b → (a ≡ true → xs ≡ ys) → (b ≡ true → xs ≡ ys) → far_in xs ≡ far_in ys
same_number xs ys true b e f h k = ap far_in (h refl)
same_number xs ys false true e f h k = ap far_in (k refl)
same_number xs ys false false e f h k = ap (λ t. cond t (Some (digits_value 10 xs)) None) e ∙ sym (ap (λ t. cond t (Some (digits_value 10 ys)) None) f)

far_alike : (bs : List ℕ) → IsUtf8 bs → far_in bs ≡ far_in (chars bs)
far_alike bs u =
    same_number bs (chars bs) _ _ refl refl
    (λ t. sym (chars-IsAscii bs (far_ascii bs t)))
    (λ t. sym (encodes-chars bs u) ∙ encodes-IsAscii (chars bs) (far_ascii (chars bs) t))

-- the bytes behind `gen` are read as the label is
pub far_behind : (label bs digits : List ℕ) → IsUtf8 bs → chars bs ≡ label → StripsPrefix (FindsTextPrefix (codes "gen")) bs digits → far_in digits ≡ far_number label
far_behind label bs digits u e h = let gen = gen_behind label bs digits u e h in far_alike digits gen.0 ∙ ap far_number gen.1

pub not_far : (label bs : List ℕ) → all_scalars label ≡ true → bs ≡ encode_utf8_all label → FindsTextPrefix (codes "gen") bs None → None ≡ far_number label
not_far label bs s e h =
    let none = starts_text false (codes "gen") (encode_utf8_all label) (subst (λ x. FindsTextPrefix (codes "gen") x None) e h) in
    ap (λ b. cond b (far_in (drop 3 label)) None) (none ∙ front_is (codes "gen") label s refl)

pub far_where : (ds : List ℕ) → length ds ≡ 19 → (get_or ds 0 0 == 0x30) ≡ false → are_far ds ≡ list_all is_ascii_digit ds
far_where ds many first = rw (many, first) refl

pub far_is : (ds : List ℕ) → are_far ds ≡ true → Some (digits_value 10 ds) ≡ far_in ds
far_is ds h = rw h refl
