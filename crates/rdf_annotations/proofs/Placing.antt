-- What a binary search in a list that ascends answers.
use Rattle.std.specs.Prelude.{◌≡◌, ◌↔◌, ◌<◌, ◌≤◌, ℕ, zero, suc, List, [], ◌∷◌, Option, Some, Result, length, slice_get}
use Rattle.std.specs.Cmp.{IsTotalOrder}
use Rattle.std.specs.FinMap.{IsAntisymmetric}
use Rattle.std.specs.List.Sorted.{IsBinarySearchResult, IsNonDecreasingBy, IsSearchInRange}
use Rattle.std.specs.Ordering.{ordering_index}
use Rattle.std.specs.Result.{result_ok}
use Rattle.std.specs.declared.cmp.Ordering.{Ordering}
use Rattle.std.specs.declared.cmp.Ordering.TheVariants.{Less, Equal, Greater}
use Rattle.std.specs.declared.result.Result.TheVariants.{Ok, Err}
use Rattle.std.proofs.Common.{inl, inr, refl, sym, ap, ◌∙◌, subst, get_or, arith}
use Rattle.std.proofs.lemmas.Bool.{cases_lt}
use Rattle.std.proofs.lemmas.Cmp.{tied_itself}
use Rattle.std.proofs.lemmas.List.{get_or_default}
use Rattle.std.proofs.lemmas.Option.{get_or_from_slice_get, same_Some, slice_get-get_or, slice_get_within}
use Rattle.owl_list.specs.Ascending.{IsAscending}
use Rattle.owl_list.proofs.AscendingLaws.{all_in, head_below, tail_ascends}

at_most_two : (o : Ordering) → ordering_index o ≤ 2
at_most_two Less = omega arith
at_most_two Equal = omega arith
at_most_two Greater = omega arith

no_two : (o : Ordering) → o ≡ Less → o ≡ Equal → ⊥
no_two o e f = cc

no_others : (o : Ordering) → o ≡ Greater → o ≡ Equal → ⊥
no_others o e f = cc

module _ {X : Type 0} (cmp : X → X → Ordering) (total : IsTotalOrder cmp) (same : IsAntisymmetric cmp) where
  below_each : (x : X) (xs : List X) (j : ℕ) (d : X) → IsAscending cmp (x ∷ xs) → j < length xs → cmp x (get_or xs j d) ≡ Less
  below_each x xs j d a l =
      all_in (λ y. cmp x y ≡ Less) xs (get_or xs j d) (head_below cmp x xs a) (j, l, get_or_default xs j (get_or xs j d) d l)

  ranks_rise : (a b c : X) → cmp a b ≡ Less → (o : Ordering) → cmp b c ≡ o → ordering_index (cmp a c) ≤ ordering_index o
  ranks_rise a b c e Less is = let less : cmp a c ≡ Less = total.trans a b c e is in rw less (omega arith)
  ranks_rise a b c e Equal is = let less : cmp a c ≡ Less = subst (λ n. cmp a n ≡ Less) (same b c is) e in rw less (omega arith)
  ranks_rise a b c e Greater is = at_most_two (cmp a c)

  rising : (xs : List X) (wanted : X) → IsAscending cmp xs → IsNonDecreasingBy (λ y. ordering_index (cmp y wanted)) xs
  rising [] wanted a i j d le lt = absurd (omega arith)
  rising (x ∷ xs) wanted a zero zero d le lt = omega arith
  rising (x ∷ xs) wanted a zero (suc j) d le lt = ranks_rise x (get_or xs j d) wanted (below_each x xs j d a (omega arith)) _ refl
  rising (x ∷ xs) wanted a (suc i) zero d le lt = absurd (omega arith)
  rising (x ∷ xs) wanted a (suc i) (suc j) d le lt = rising xs wanted (tail_ascends cmp x xs a) i j d (omega arith) (omega arith)

  not_behind : (x : X) (xs : List X) (j : ℕ) → IsAscending cmp (x ∷ xs) → slice_get xs j ≡ Some x → ⊥
  not_behind x xs j a at =
      no_two (cmp x x) (subst (λ y. cmp x y ≡ Less) (get_or_from_slice_get xs j x x at) (below_each x xs j x a (slice_get_within xs j x at))) (tied_itself total x)

  -- each element stands at one place
  one_place : (xs : List X) (i j : ℕ) (x : X) → IsAscending cmp xs → slice_get xs i ≡ Some x → slice_get xs j ≡ Some x → i ≡ j
  one_place [] i j x a e f = cc
  one_place (y ∷ ys) zero zero x a e f = refl
  one_place (y ∷ ys) zero (suc j) x a e f = absurd (not_behind y ys j a (f ∙ ap Some (sym (same_Some y x e))))
  one_place (y ∷ ys) (suc i) zero x a e f = absurd (not_behind y ys i a (e ∙ ap Some (sym (same_Some y x f))))
  one_place (y ∷ ys) (suc i) (suc j) x a e f = ap suc (one_place ys i j x (tail_ascends cmp y ys a) e f)

  abbrev Finds : List X → X → Option ℕ → Type 0
  Finds xs wanted found = (place : ℕ) (x : X) → slice_get xs place ≡ Some x → (x ≡ wanted) ↔ (found ≡ Some place)

  -- the place that is found is that of the element
  pub found : (xs : List X) (wanted : X) (r : Result ℕ ℕ) → IsAscending cmp xs → IsSearchInRange r (length xs) → IsBinarySearchResult (λ y. cmp y wanted) xs r →
      Finds xs wanted (result_ok r)
  found xs wanted (Ok p) a within h = λ place x at.
      let there : slice_get xs p ≡ Some wanted = slice_get-get_or xs p x within ∙ ap Some (same (get_or xs p x) wanted (h x)) in (
        λ e. ap Some (one_place xs p place x a (there ∙ ap Some (sym e)) at),
        λ e. same_Some x wanted (sym at ∙ sym (ap (slice_get xs) (same_Some p place e)) ∙ there),
      )
  found xs wanted (Err p) a within h = λ place x at.
      let parts = h (rising xs wanted a) in
      let here = get_or_from_slice_get xs place x x at in
      let inside = slice_get_within xs place x at in (
        λ e.
            let equal : cmp (get_or xs place x) wanted ≡ Equal = subst (λ y. cmp y wanted ≡ Equal) (sym (here ∙ e)) (tied_itself total wanted) in
            elim (cases_lt place p) [
              | inl l ↦ absurd (no_two _ (parts.0 place x (omega arith) l) equal)
              | inr l ↦ absurd (no_others _ (parts.1 place x l inside) equal)
            ],
        λ e. cc,
      )
