-- How IRIs are abbreviated when they are written.
use Rattle.std.specs.Prelude.{ℕ, Bool, false, ◌&&◌, List, [], ◌∷◌, length, drop, Option, None, Some, nat_eq, nat_le, if◌then◌else◌}
use Rattle.std.specs.List.{list_all, starts_with}
use Rattle.owl_atom.specs.declared.prefixes.Prefix.{Prefix}
use Rattle.owl_atom.specs.Prefixes.{is_plain_character, is_plain_start}

abbrev pub is_plain_local : List ℕ → Bool
is_plain_local [] = false
is_plain_local (c ∷ cs) = is_plain_start c && list_all is_plain_character cs

-- the characters of the IRI behind so many
abbrev pub local_behind : Prefix → List ℕ → List ℕ
local_behind prefix iri = drop (length prefix.iri) iri

-- the IRI begins with that of the prefix, and what follows is a plain local part
abbrev pub cuts : List ℕ → Prefix → Bool
cuts iri prefix = starts_with nat_eq iri prefix.iri && is_plain_local (local_behind prefix iri)

-- the one with the longer IRI, and the first of two that are as long
abbrev pub longer_of : Prefix → Option Prefix → Prefix
longer_of prefix None = prefix
longer_of prefix (Some other) = if nat_le (length other.iri) (length prefix.iri) then prefix else other

-- Of the prefixes that leave a plain local part, the one with the longest IRI, and of these the first.
abbrev pub best_prefix : List ℕ → List Prefix → Option Prefix
best_prefix iri [] = None
best_prefix iri (prefix ∷ others) =
    if cuts iri prefix then Some (longer_of prefix (best_prefix iri others)) else best_prefix iri others
