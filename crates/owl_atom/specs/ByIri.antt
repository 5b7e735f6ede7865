-- Prefixes by their IRIs.
use Rattle.std.specs.Prelude.{◌≡◌, ◌↔◌, ◌+◌, ◌<◌, ◌≤◌, ℕ, List, drop, false, length, Some, slice_get, slice_index, Contains}
use Rattle.std.specs.declared.cmp.Ordering.{Ordering}
use Rattle.std.specs.Ordering.{nat_cmp, then_cmp}
use Rattle.std.specs.List.Sorted.{IsStrictlySortedBy}
use Rattle.std.specs.Str.{encode_utf8_all}
use Rattle.owl_characters.specs.Iri.{AllAre}
use Rattle.owl_characters.specs.Order.{text_cmp}
use Rattle.owl_atom.specs.declared.by_iri.ByIri.{ByIri}
use Rattle.owl_atom.specs.declared.by_iri.Front.{Front}
use Rattle.owl_atom.specs.declared.prefixes.Prefix.{Prefix}
use Rattle.owl_atom.specs.Prefixes.{is_plain_character}

-- by IRI, and then by place
abbrev pub front_cmp : Front → Front → Ordering
front_cmp = then_cmp (λ a b. text_cmp a.iri b.iri) (λ a b. nat_cmp a.place b.place)

-- the IRI of a front is that of the prefix at its place, which is one of the first, so many
abbrev pub IsFrontOf : List Prefix → ℕ → Front → Type 0
IsFrontOf prefixes count front =
    (front.place < count) × ((prefix : Prefix) × (slice_get prefixes front.place ≡ Some prefix) × (prefix.iri ≡ front.iri))

abbrev pub AreFronts : List Prefix → ℕ → List Front → Type 0
AreFronts prefixes count fronts = (front : Front) → Contains fronts front ↔ IsFrontOf prefixes count front

-- the length of an IRI in bytes
abbrev pub size_of : Prefix → ℕ
size_of prefix = length (encode_utf8_all prefix.iri)

-- What an index of a table is: the fronts of all prefixes in order, and all lengths of their IRIs.
pub record IsIndex (prefixes : List Prefix) (index : ByIri) : Type 0 where
  pub ascending : IsStrictlySortedBy front_cmp index.fronts.items
  pub fronts : AreFronts prefixes (length prefixes) index.fronts.items
  pub lengths : (place : ℕ) (prefix : Prefix) → slice_get prefixes place ≡ Some prefix → Contains index.lengths.items (size_of prefix)

-- the first place of a prefix with this IRI
pub record IsFirst (fronts : List Front) (iri : List ℕ) (place : ℕ) : Type 0 where
  pub stands : Contains fronts (record { iri = iri; place = place })
  pub first : (other : ℕ) → Contains fronts (record { iri = iri; place = other }) → place ≤ other

-- prefixes whose IRIs have one of these lengths, and those of one length
abbrev pub sized : List ℕ → ℕ → Prefix → Type 0
sized lengths place prefix = Contains lengths (size_of prefix)

abbrev pub of_size : ℕ → ℕ → Prefix → Type 0
of_size size place prefix = size_of prefix ≡ size

-- from this byte on all characters are of plain local parts, and the byte before is of none of these
pub record IsPlainFrom (bytes : List ℕ) (from : ℕ) : Type 0 where
  pub within : from ≤ length bytes
  pub plain : AllAre is_plain_character (drop from bytes)
  pub before : (place : ℕ) → place + 1 ≡ from → is_plain_character (slice_index bytes place) ≡ false
