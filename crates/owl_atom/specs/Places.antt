-- Places in a table of prefixes, whose names ascend.
use Rattle.std.specs.Prelude.{◌≡◌, ◌⊎◌, ◌<◌, ℕ, zero, suc, List, [], ◌∷◌, length, Option, Some, None, slice_get, if◌then◌else◌, nat_lt}
use Rattle.std.specs.declared.cmp.Ordering.TheVariants.{Less}
use Rattle.std.specs.Str.{IsCharBoundary, encode_utf8_all}
use Rattle.owl_characters.specs.Order.{text_cmp}
use Rattle.owl_atom.specs.declared.prefixes.Prefix.{Prefix}
use Rattle.owl_atom.specs.Prefixes.{Cuts, IsBetter}

-- the prefix of this name stands at this place
abbrev pub IsPlaceOf : List Prefix → List ℕ → ℕ → Type 0
IsPlaceOf [] name place = ⊥
IsPlaceOf (prefix ∷ others) name zero = prefix.name ≡ name
IsPlaceOf (prefix ∷ others) name (suc place) = (text_cmp prefix.name name ≡ Less) × IsPlaceOf others name place

-- there is none of this name, and this is the place where it would stand
abbrev pub IsGapFor : List Prefix → List ℕ → ℕ → Type 0
IsGapFor [] name zero = Unit {0}
IsGapFor [] name (suc place) = ⊥
IsGapFor (prefix ∷ others) name zero = text_cmp name prefix.name ≡ Less
IsGapFor (prefix ∷ others) name (suc place) = (text_cmp prefix.name name ≡ Less) × IsGapFor others name place

-- the prefix cuts the IRI, and its local part begins at this byte
pub record CutsAt (prefix : Prefix) (iri : List ℕ) (begin : ℕ) : Type 0 where
  pub local : List ℕ
  pub cuts : Cuts prefix iri local
  pub begins : begin ≡ length (encode_utf8_all prefix.iri)
  pub boundary : IsCharBoundary (encode_utf8_all iri) begin

abbrev pub CutsNowhere : Prefix → List ℕ → Type 0
CutsNowhere prefix iri = (local : List ℕ) → Cuts prefix iri local → ⊥

-- of the prefixes that are asked for by their places and what they are, the one at this place cuts the IRI best
pub record IsBestOf (prefixes : List Prefix) (among : ℕ → Prefix → Type 0) (iri : List ℕ) (place begin : ℕ) : Type 0 where
  pub prefix : Prefix
  pub within : among place prefix
  pub stands : slice_get prefixes place ≡ Some prefix
  pub cuts : CutsAt prefix iri begin
  pub best : (k : ℕ) (other : Prefix) (rest : List ℕ) → among k other → slice_get prefixes k ≡ Some other → Cuts other iri rest → (other ≡ prefix) ⊎ IsBetter prefix other

-- or none of them cuts it
abbrev pub IsBest : List Prefix → (ℕ → Prefix → Type 0) → List ℕ → Option (ℕ × ℕ) → Type 0
IsBest prefixes among iri None = (k : ℕ) (other : Prefix) → among k other → slice_get prefixes k ≡ Some other → CutsNowhere other iri
IsBest prefixes among iri (Some (place, begin)) = IsBestOf prefixes among iri place begin

-- the first prefixes, so many
abbrev pub first : ℕ → ℕ → Prefix → Type 0
first count place prefix = place < count

-- the longer cut of two, and the earlier of two that are as long
abbrev pub longer : Option (ℕ × ℕ) → Option (ℕ × ℕ) → Option (ℕ × ℕ)
longer best None = best
longer None (Some cut) = Some cut
longer (Some (found, begin)) (Some (place, other)) = if nat_lt begin other then Some (place, other) else Some (found, begin)
