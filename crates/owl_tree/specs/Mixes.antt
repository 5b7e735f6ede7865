-- The mix of an atom: a number of 64 bits by which a table may sort atoms.
use Rattle.std.specs.Prelude.{ℕ, ◌+◌, ◌*◌, ◌%◌, ◌^◌, List, Option, None, Some}
use Rattle.std.specs.List.{fold}
use Rattle.std.specs.Str.{encode_utf8_all}
use Rattle.owl_tree.specs.declared.atom.Atom.{Atom}
use Rattle.owl_tree.specs.declared.atom.Atom.TheVariants.{Iri, Label, Literal, Number}

-- the mix after one more number
unfoldable pub mix_step : ℕ → ℕ → ℕ
mix_step mix number = (mix * 1000003 + number) % 2 ^ 64

-- the mix after the bytes of a text
abbrev pub mix_text : ℕ → List ℕ → ℕ
mix_text mix text = fold mix_step mix (encode_utf8_all text)

abbrev pub mix_tag : ℕ → Option (List ℕ) → ℕ
mix_tag mix None = mix
mix_tag mix (Some tag) = mix_text mix tag

-- a number is its own mix; of another atom its texts are mixed, of a literal its form, datatype and tag
unfoldable pub mix_of : Atom → ℕ
mix_of (Iri iri) = mix_text 7 iri
mix_of (Label label) = mix_text 7 label
mix_of (Literal literal) = mix_tag (mix_text (mix_text 7 literal.lexical) literal.datatype) literal.tag
mix_of (Number number) = number
