-- What stands behind `gen`, in bytes and in characters.
use Rattle.std.proofs.Common.{◌≡◌, true, false, cond, List, ℕ, ◌++◌, drop, None, refl, sym, ap, ◌∙◌, subst}
use Rattle.std.specs.Prelude.{codes}
use Rattle.std.specs.Str.{IsUtf8, all_scalars, chars, encode_utf8_all}
use Rattle.std.specs.Str.Pattern.{FindsTextPrefix, StripsPrefix}
use Rattle.std.proofs.lemmas.Str.{IsUtf8-drop, IsUtf8-from_ascii, chars-append}
use Rattle.std.proofs.lemmas.Str.Pattern.{starts_text}
use Rattle.owl_characters.proofs.AsciiLaws.{ascii_chars, ascii_text, front_is}
use Rattle.blank_labels.specs.Labels.{counted_number, label_number}
use Rattle.blank_labels.proofs.Digits.{counted_alike}

-- the digits behind `gen` are text, and the label is `gen` with their characters
pub gen_behind : (label bs digits : List ℕ) → IsUtf8 bs → chars bs ≡ label → StripsPrefix (FindsTextPrefix (codes "gen")) bs digits → IsUtf8 digits × (codes "gen" ++ chars digits ≡ label)
gen_behind label bs digits u e h =
    let whole : bs ≡ codes "gen" ++ digits = h.1.1 ∙ ap (λ x. codes "gen" ++ x) (sym h.2) in
    let cut = chars-append (codes "gen") digits (IsUtf8-from_ascii (codes "gen") (ascii_text (codes "gen") refl)) ∙ ap (λ x. x ++ chars digits) (ascii_chars (codes "gen") refl) in
    (subst IsUtf8 (sym (h.2 ∙ ap (λ n. drop n bs) h.1.0)) (IsUtf8-drop bs 3 u h.1.2), sym (ap chars whole ∙ cut) ∙ e)

-- the bytes behind it are counted as the label is
pub number_behind : (label bs digits : List ℕ) → IsUtf8 bs → chars bs ≡ label → StripsPrefix (FindsTextPrefix (codes "gen")) bs digits → counted_number digits ≡ label_number label
number_behind label bs digits u e h = let gen = gen_behind label bs digits u e h in counted_alike digits gen.0 ∙ ap label_number gen.1

pub no_number : (label bs : List ℕ) → all_scalars label ≡ true → bs ≡ encode_utf8_all label → FindsTextPrefix (codes "gen") bs None → 0 ≡ label_number label
no_number label bs s e h =
    let none = starts_text false (codes "gen") (encode_utf8_all label) (subst (λ x. FindsTextPrefix (codes "gen") x None) e h) in
    ap (λ b. cond b (counted_number (drop 3 label)) 0) (none ∙ front_is (codes "gen") label s refl)
