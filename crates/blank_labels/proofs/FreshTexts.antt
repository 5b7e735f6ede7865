-- The text of a fresh label, as it is written.
use Rattle.std.proofs.Common.{◌≡◌, ℕ, ◌<◌, ◌^◌, List, ◌++◌, refl, sym, subst, ap, ◌∙◌}
use Rattle.std.specs.Prelude.{codes}
use Rattle.std.specs.Fmt.{decimal}
use Rattle.std.specs.Str.{chars}
use Rattle.std.proofs.lemmas.Fmt.{IsAscii-decimal, digits_decimal}
use Rattle.std.proofs.lemmas.Str.{IsAscii-append, chars-IsAscii}
use Rattle.owl_characters.proofs.AsciiLaws.{ascii_text}
use Rattle.owl_characters.specs.Names.{IsLabel}
use Rattle.blank_labels.proofs.LabelLaws.{label_of_digits, numerals}

pub written : (bs : List ℕ) (n : ℕ) → n < 2 ^ 64 → bs ≡ codes "gen" ++ decimal n → chars bs ≡ codes "gen" ++ decimal n
written bs n small e = ap chars e ∙ chars-IsAscii (codes "gen" ++ decimal n) (IsAscii-append (codes "gen") (decimal n) (ascii_text (codes "gen") refl) (IsAscii-decimal n small))

pub written_label : (bs : List ℕ) (n : ℕ) → n < 2 ^ 64 → bs ≡ codes "gen" ++ decimal n → IsLabel (chars bs)
written_label bs n small e = subst IsLabel (sym (written bs n small e)) (label_of_digits (decimal n) (digits_decimal numerals n small))
