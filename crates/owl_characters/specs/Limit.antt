-- The limit of documents and of what is written.
use Rattle.std.specs.Prelude.{ℕ, ◌^◌}

-- the most bytes of a document, and of an output
abbrev pub most_bytes : ℕ
most_bytes = 2 ^ 27
