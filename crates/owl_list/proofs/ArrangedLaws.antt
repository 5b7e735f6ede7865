-- A sort, and then one of each, leave the elements of a list in ascending order.
use Rattle.std.proofs.Common.{◌≡◌, true, List, [], sym, ◌∙◌, Bool}
use Rattle.std.specs.declared.cmp.Ordering.{Ordering}
use Rattle.std.specs.declared.cmp.Ordering.TheVariants.{Equal}
use Rattle.std.specs.Ordering.{eq_by_cmp}
use Rattle.std.specs.Cmp.{IsEquivalence, IsTotalOrder, Equal-is}
use Rattle.std.specs.List.{dedup}
use Rattle.std.specs.List.Retain.{IsFiltered, DiffersFromLast}
use Rattle.std.specs.List.Sorted.{IsPermutation, IsSorted}
use Rattle.std.proofs.lemmas.List.Filters.{dedup_is}
use Rattle.std.proofs.lemmas.List.Kept.{Contains-dedup, Contains-from_dedup, IsStrictlySortedBy-dedup}
use Rattle.std.proofs.lemmas.List.Sorted.{Contains-permutation, IsPermutation-sym}
use Rattle.owl_list.specs.Ascending.{ascending, HoldSame}
use Rattle.owl_list.proofs.AscendingLaws.{ascending_is}

module _ {X : Type 0} (cmp : X → X → Ordering) (eq : X → X → Bool) (total : IsTotalOrder cmp) (equivalence : IsEquivalence eq) (ties : (x y : X) → eq x y ≡ eq_by_cmp cmp x y) (same : (x y : X) → cmp x y ≡ Equal → x ≡ y) where
  equals_same : (x y : X) → eq x y ≡ true → x ≡ y
  equals_same x y e = same x y ((Equal-is (cmp x y)).0 (sym (ties x y) ∙ e))

  pub sorted_once : (xs zs : List X) → IsPermutation xs zs → IsSorted cmp zs → dedup eq zs ≡ ascending cmp xs
  sorted_once xs zs p s =
      let holds : HoldSame (dedup eq zs) xs = λ x. (
        λ m. Contains-permutation zs xs x (IsPermutation-sym xs zs p) (Contains-from_dedup eq zs x m),
        λ m. Contains-dedup equivalence equals_same zs x (Contains-permutation xs zs x p m),
      ) in
      ascending_is cmp total same xs (dedup eq zs) (IsStrictlySortedBy-dedup total ties zs s) holds

  pub arranged : (xs zs ys : List X) → IsPermutation xs zs → IsSorted cmp zs → IsFiltered (DiffersFromLast eq) [] zs ys → ys ≡ ascending cmp xs
  arranged xs zs ys p s f = dedup_is eq zs ys f ∙ sorted_once xs zs p s
