-- Laws of what a list holds once it was lent as a slice.
use Rattle.std.proofs.Common.{◌≡◌, ◌++◌, ℕ, List, length, take, drop, sym, ap, ◌∙◌, subst}
use Rattle.std.proofs.Math.Seq.{take-append_seam}
use Rattle.std.specs.List.Sorted.{IsPermutation}
use Rattle.std.proofs.lemmas.List.Sorted.{Contains-permutation, IsPermutation-sym, IsPermutation-trans, length_permutation}
use Rattle.owl_list.specs.Ascending.{HoldSame}

-- the slice was the whole list, and its items were moved
pub moved_back : {X : Type 0} (first old lent new : List X) (n : ℕ) → IsPermutation first old → lent ≡ old → length lent ≡ n → IsPermutation lent new →
    IsPermutation first (take n (new ++ drop (length new) old))
moved_back first old lent new n before same count moved =
    let all = ap (λ k. take k (new ++ drop (length new) old)) (sym (length_permutation lent new moved ∙ count)) ∙ take-append_seam new (drop (length new) old) in
    subst (IsPermutation first) (sym all) (IsPermutation-trans first old new before (subst (λ (l : List _). IsPermutation l new) same moved))

pub moved_holds : {X : Type 0} (old new : List X) → IsPermutation old new → HoldSame new old
moved_holds old new moved = λ x. (Contains-permutation new old x (IsPermutation-sym old new moved), Contains-permutation old new x moved)
