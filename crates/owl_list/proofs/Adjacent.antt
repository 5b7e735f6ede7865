-- A list ascends where each element is below the next one.
use Rattle.std.proofs.Common.{◌≡◌, Bool, true, false, List, [], ◌∷◌, refl, sym}
use Rattle.std.specs.Bool.{IsTrue}
use Rattle.std.specs.List.{IsAllAdjacentAnswer}
use Rattle.std.specs.declared.cmp.Ordering.{Ordering}
use Rattle.std.specs.declared.cmp.Ordering.TheVariants.{Less, Equal, Greater}
use Rattle.std.specs.Ordering.{is_lt}
use Rattle.std.specs.Cmp.{IsTotalOrder}
use Rattle.std.proofs.lemmas.Map.Keys.{sorted_from_all_adjacent}
use Rattle.owl_list.specs.Ascending.{IsAscending}
use Rattle.owl_list.proofs.AscendingLaws.{nothing_ascends}

is_less : (o : Ordering) → is_lt o ≡ true → o ≡ Less
is_less Less e = refl
is_less Equal e = absurd cc
is_less Greater e = absurd cc

module _ {X : Type 0} (cmp : X → X → Ordering) (total : IsTotalOrder cmp) where
  pub ascends_if : (xs : List X) (answer : Bool) → IsAllAdjacentAnswer (λ x y b. b ≡ is_lt (cmp x y)) xs answer → IsTrue answer → IsAscending cmp xs
  ascends_if [] answer h t = nothing_ascends cmp
  ascends_if (x ∷ xs) true h t = sorted_from_all_adjacent total (x ∷ xs) x (λ k lt. is_less _ (sym (h k x lt)))
  ascends_if (x ∷ xs) false h t = absurd cc
