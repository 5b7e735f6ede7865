-- What a reference stands for, against a base (RFC 3986, section 5.2).
use Rattle.std.specs.Prelude.{ℕ, ◌&&◌, ◌==◌, List, [], ◌∷◌, ◌++◌, Option, None, Some, codes, is_some, if◌then◌else◌}
use Rattle.std.specs.List.{after_first, before_last, list_any}
use Rattle.iri_references.specs.References.{Parts, before, colon, has_scheme, is_empty, parts_of, slash}
use Rattle.iri_references.specs.DotSegments.{without_dot_segments}

-- up to and with the last slash, or nothing where there is none
abbrev pub through_last_slash : List ℕ → List ℕ
through_last_slash path = if list_any (λ c. c == slash) path then before_last (λ c. c == slash) path ++ codes "/" else []

-- the part of the base that a path is put behind (section 5.2.3)
abbrev pub front_of : Option (List ℕ) → List ℕ → List ℕ
front_of authority path = if is_some authority && is_empty path then codes "/" else through_last_slash path

abbrev pub merged : Parts → List ℕ → List ℕ
merged base path = front_of base.authority base.path ++ path

abbrev pub parts : Option (List ℕ) → List ℕ → Option (List ℕ) → Option (List ℕ) → Parts
parts authority path query fragment = record { authority = authority; path = path; query = query; fragment = fragment }

-- By authority, path, query and fragment of a reference without a scheme, the parts that it stands for (section 5.2.2).
abbrev pub target_by : Parts → Option (List ℕ) → List ℕ → Option (List ℕ) → Option (List ℕ) → Parts
target_by base (Some authority) path query fragment = parts (Some authority) (without_dot_segments path) query fragment
target_by base None [] None fragment = parts base.authority base.path base.query fragment
target_by base None [] (Some query) fragment = parts base.authority base.path (Some query) fragment
target_by base None (c ∷ cs) query fragment =
    if c == slash then parts base.authority (without_dot_segments (c ∷ cs)) query fragment
    else parts base.authority (without_dot_segments (merged base (c ∷ cs))) query fragment

unfoldable pub target : Parts → Parts → Parts
target base reference = target_by base reference.authority reference.path reference.query reference.fragment

-- a part with the mark in front of it, where there is one
abbrev pub marked : List ℕ → Option (List ℕ) → List ℕ
marked mark None = []
marked mark (Some part) = mark ++ part

-- section 5.3
unfoldable pub recomposed : List ℕ → Parts → List ℕ
recomposed scheme parts =
    scheme ++ codes ":" ++ marked (codes "//") parts.authority ++ parts.path ++ marked (codes "?") parts.query ++ marked (codes "#") parts.fragment

-- what a reference without a scheme stands for, against a base with one
unfoldable pub resolved_without_scheme : List ℕ → List ℕ → List ℕ
resolved_without_scheme base reference = recomposed (before colon base) (target (parts_of (after_first (λ c. c == colon) base)) (parts_of reference))

-- what a reference is without a base
abbrev pub absolute : List ℕ → Option (List ℕ)
absolute reference = if has_scheme reference then Some reference else None

-- A reference with a scheme is taken as it is written, with its dot segments.
unfoldable pub resolved : List ℕ → List ℕ → List ℕ
resolved base reference = if has_scheme reference then reference else resolved_without_scheme base reference
