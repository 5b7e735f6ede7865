-- The place of the first item that passes a test.
use Rattle.std.proofs.Common.{◌≡◌, ℕ, ◌≤◌, Bool, true, false, cond, List, length, nat_lt, not, None, Some, unwrap_or, refl, arith}
use Rattle.std.proofs.lemmas.List.Sums.{prefix_len-le-length}
use Rattle.std.specs.List.{position, position_or_len}

chosen : (below : Bool) (place most : ℕ) → nat_lt place most ≡ below → place ≤ most → unwrap_or (cond below (Some place) None) most ≡ place
chosen true place most e le = refl
chosen false place most e le = grind arith

-- it, or how many there are where none does
pub unwrap_or-position : (test : ℕ → Bool) (cs : List ℕ) → unwrap_or (position test cs) (length cs) ≡ position_or_len test cs
unwrap_or-position test cs =
    chosen (nat_lt (position_or_len test cs) (length cs)) (position_or_len test cs) (length cs) refl (prefix_len-le-length (λ c. not (test c)) cs)
