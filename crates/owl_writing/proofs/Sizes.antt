-- How many bytes the characters of bytes take.
use Rattle.std.proofs.Common.{◌≡◌, ℕ, List, length, sym, ap, ◌∙◌}
use Rattle.std.specs.Str.{IsUtf8, chars}
use Rattle.std.proofs.lemmas.Str.{encodes-chars}
use Rattle.owl_characters.specs.Utf8.{size}
use Rattle.owl_characters.proofs.Utf8Laws.{size_is}

pub size_chars : (s : List ℕ) → IsUtf8 s → size (chars s) ≡ length s
size_chars s u = sym (size_is (chars s)) ∙ ap length (encodes-chars s u)
