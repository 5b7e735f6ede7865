-- Texts are the same where their characters are, and they are ordered by their bytes.
use Rattle.std.specs.Prelude.{ℕ, Bool, List, nat_eq}
use Rattle.std.specs.declared.cmp.Ordering.{Ordering}
use Rattle.std.specs.Ordering.{on, nat_cmp}
use Rattle.std.specs.Cmp.Lexicographic.{pointwise, slice_cmp}
use Rattle.std.specs.Str.{encode_utf8_all}

abbrev pub text_eq : List ℕ → List ℕ → Bool
text_eq = pointwise nat_eq

abbrev pub text_cmp : List ℕ → List ℕ → Ordering
text_cmp = on encode_utf8_all (slice_cmp nat_cmp)
