-- Lists of marks, each of which says whether something is so.
use Rattle.std.specs.Prelude.{◌≡◌, ◌<◌, ◌↔◌, ℕ, Bool, true, false, List, Some, length, slice_get, slice_index_or}

-- for each number below the count one mark, which is true exactly where this is so of the number
pub record MarkNumbers (count : ℕ) (IsSo : ℕ → Type 0) (marks : List Bool) : Type 0 where
  pub size : length marks ≡ count
  pub told : (number : ℕ) → number < count → (slice_index_or marks number false ≡ true) ↔ IsSo number

-- for each element one mark, which is true exactly where this is so of its place and of it
pub record MarkEach {X : Type 0} (IsSo : ℕ → X → Type 0) (xs : List X) (marks : List Bool) : Type 0 where
  pub size : length marks ≡ length xs
  pub told : (place : ℕ) (x : X) → slice_get xs place ≡ Some x → (slice_get marks place ≡ Some true) ↔ IsSo place x
