-- The limit of a text.
use Rattle.std.specs.Prelude.{◌<◌, ℕ, List}
use Rattle.owl_characters.specs.Utf8.{size}
use Rattle.owl_characters.specs.Limit.{most_bytes}

-- the text passes the limit
abbrev pub IsTooLong : List ℕ → Type 0
IsTooLong text = most_bytes < size text
