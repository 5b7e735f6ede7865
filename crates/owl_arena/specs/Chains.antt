-- Chains of places, one for each bucket. A link is one more than a place, or 0 for none.
use Rattle.std.specs.Prelude.{◌≡◌, ◌<◌, ◌%◌, ℕ, zero, suc, Bool, nat_eq, if◌then◌else◌, List, length, slice_index}

-- the link to the last place below this one that passes
abbrev pub last_link : (ℕ → Bool) → ℕ → ℕ
last_link test zero = 0
last_link test (suc n) = if test n then suc n else last_link test n

-- of so many buckets, the one into which the mix at the place falls
abbrev pub bucket_at : List ℕ → ℕ → ℕ → ℕ
bucket_at mixes buckets place = slice_index mixes place % buckets

abbrev pub falls_into : List ℕ → ℕ → ℕ → ℕ → Bool
falls_into mixes buckets bucket place = nat_eq (bucket_at mixes buckets place) bucket

-- The places below this one are in chains: a bucket has a link to its last one, and a place a link to the one before it in its bucket.
pub record AreLinked (heads nexts mixes : List ℕ) (count : ℕ) : Type 0 where
  pub of_buckets : (b : ℕ) → b < length heads → slice_index heads b ≡ last_link (falls_into mixes (length heads) b) count
  pub of_places : (k : ℕ) → k < count → slice_index nexts k ≡ last_link (falls_into mixes (length heads) (bucket_at mixes (length heads) k)) k
