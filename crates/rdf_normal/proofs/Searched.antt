-- What a binary search among ascending numbers answers.
use Rattle.std.proofs.Common.{◌≡◌, ◌<◌, ◌≤◌, ℕ, zero, suc, List, [], ◌∷◌, length, Contains, Result, Ok, Err, IsTrue, inl, inr, refl, sym, ◌∙◌, get_or, arith}
use Rattle.std.specs.Prelude.{◌↔◌}
use Rattle.std.specs.Result.{is_ok, MatchResult}
use Rattle.std.specs.declared.cmp.Ordering.TheVariants.{Less}
use Rattle.std.specs.List.Sorted.{IsBinarySearchResult}
use Rattle.std.specs.Ordering.{nat_cmp}
use Rattle.std.proofs.lemmas.Bool.{cases_lt}
use Rattle.std.proofs.lemmas.List.{get_or_default}
use Rattle.std.proofs.lemmas.List.Sorted.{searched}
use Rattle.std.specs.Cmp.{ranked}
use Rattle.owl_list.specs.Ascending.{IsAscending}
use Rattle.owl_list.proofs.AscendingLaws.{all_in, head_below, tail_ascends}

less_is : (a b : ℕ) → nat_cmp a b ≡ Less → a < b
less_is a b e = ranked a b Less (sym e)

first_least : (x : ℕ) (xs : List ℕ) (j : ℕ) → IsAscending nat_cmp (x ∷ xs) → j < length xs → x < get_or xs j 0
first_least x xs j a l =
    less_is x (get_or xs j 0) (all_in (λ y. nat_cmp x y ≡ Less) xs (get_or xs j 0) (head_below nat_cmp x xs a) (j, l, get_or_default xs j (get_or xs j 0) 0 l))

rises : (xs : List ℕ) → IsAscending nat_cmp xs → (i j : ℕ) → i ≤ j → j < length xs → get_or xs i 0 ≤ get_or xs j 0
rises [] a i j le l = absurd (omega arith)
rises (x ∷ xs) a zero zero le l = omega arith
rises (x ∷ xs) a zero (suc j) le l = let less = first_least x xs j a (omega arith) in omega arith
rises (x ∷ xs) a (suc i) zero le l = absurd (omega arith)
rises (x ∷ xs) a (suc i) (suc j) le l = rises xs (tail_ascends nat_cmp x xs a) i j (omega arith) (omega arith)

Tells : List ℕ → ℕ → Result ℕ ℕ → Type 0
Tells xs x r = MatchResult r (λ i. (i < length xs) × (get_or xs i 0 ≡ x)) (λ i. (i ≤ length xs) × ((k : ℕ) → k < i → get_or xs k 0 < x) × ((k : ℕ) → i ≤ k → k < length xs → x < get_or xs k 0))

told : (xs : List ℕ) (x : ℕ) (r : Result ℕ ℕ) → Tells xs x r → IsTrue (is_ok r) ↔ Contains xs x
unfolding Tells
told xs x (Ok i) h = (λ t. (i, h.0, get_or_default xs i x 0 h.0 ∙ h.1), λ m. refl)
told xs x (Err i) h = (
  λ t. absurd (cc),
  λ m.
      let at : get_or xs m.0 0 ≡ x = get_or_default xs m.0 0 x m.1 ∙ m.2 in
      elim (cases_lt m.0 i) [ inl l ↦ let less = h.1 m.0 l in absurd (omega arith) | inr l ↦ let more = h.2 m.0 l m.1 in absurd (omega arith) ],
)

-- the number is found exactly if it is there
pub found : (xs : List ℕ) (x : ℕ) (r : Result ℕ ℕ) → IsAscending nat_cmp xs → IsBinarySearchResult (λ y. nat_cmp y x) xs r → IsTrue (is_ok r) ↔ Contains xs x
unfolding Tells
found xs x r a h = told xs x r (searched xs x r h (rises xs a))
