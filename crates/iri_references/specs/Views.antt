-- What the code has of references and paths, by their characters.
use Rattle.std.specs.Prelude.{ℕ, Bool, ◌&&◌, ◌||◌, ◌==◌, List, [], Option, None, Some, is_none, is_some}
use Rattle.std.specs.Option.{option_map}
use Rattle.std.specs.Str.{chars}
use denote.Ref.{Bor}
use Rattle.owl_characters.specs.Names.{begins_with}
use Rattle.iri_references.specs.declared.parts.Parts.{Parts as Slices}
use Rattle.iri_references.specs.References.{Parts, is_empty, slash}
use Rattle.iri_references.specs.DotSegments.{segments_of}

abbrev pub seen : Option (Bor (List ℕ)) → Option (List ℕ)
seen part = option_map (λ text. chars text.now) part

abbrev pub parts_seen : Slices → Parts
parts_seen parts = record { authority = seen parts.authority; path = chars parts.path.now; query = seen parts.query; fragment = seen parts.fragment }

-- a reference of at most a query and a fragment, which keeps the base's path
abbrev pub keeps_path : Parts → Bool
keeps_path reference = is_none reference.authority && is_empty reference.path

-- a reference whose path is put behind no other
abbrev pub has_own_path : Parts → Bool
has_own_path reference = is_some reference.authority || begins_with (λ c. c == slash) reference.path

-- the segments of a text that stands behind a slash, where there is one
abbrev pub segments_behind : Option (List ℕ) → List (List ℕ)
segments_behind None = []
segments_behind (Some text) = segments_of text
