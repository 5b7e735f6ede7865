-- How many of the taken numbers are passed over.
use Rattle.std.proofs.Common.{◌≡◌, ◌≤◌, ◌<◌, ◌+◌, ℕ, zero, suc, List, [], ◌∷◌, length, get_or, arith}
use Rattle.std.specs.Prelude.{nat_le}
use Rattle.std.specs.Ordering.{nat_cmp}
use Rattle.std.proofs.lemmas.Bool.{cond_both, leb-true, leb-false}
use Rattle.owl_list.specs.Ascending.{IsAscending}
use Rattle.owl_list.proofs.AscendingLaws.{head_below, tail_ascends}
use Rattle.blank_labels.specs.FreshLabels.{passing}
use Rattle.blank_labels.proofs.FreshLabelLaws.{less_is}

-- those in front of the one place are passed over, and the one at the other isn't
pub record IsBetween (taken : List ℕ) (number low high : ℕ) : Type 0 where
  pub order : low ≤ high
  pub inside : high ≤ length taken
  pub passed : (i : ℕ) → i < low → get_or taken i 0 ≤ number + i
  pub kept : high < length taken → number + high < get_or taken high 0

-- those that ascend do so by one or more
climbs : (taken : List ℕ) → IsAscending nat_cmp taken → (i j : ℕ) → i ≤ j → j < length taken → get_or taken i 0 + j ≤ get_or taken j 0 + i
climbs [] a i j h k = absurd (omega (arith, k))
climbs (t ∷ taken) a zero zero h k = omega arith
climbs (t ∷ taken) a (suc i) zero h k = absurd (omega (arith, h))
climbs (t ∷ taken) a (suc i) (suc j) h k = let up = climbs taken (tail_ascends nat_cmp t taken a) i j (omega (arith, h)) (omega (arith, k)) in omega (arith, up)
climbs (t ∷ []) a zero (suc j) h k = absurd (omega (arith, k))
climbs (t ∷ u ∷ taken) a zero (suc j) h k =
    let up = climbs (u ∷ taken) (tail_ascends nat_cmp t (u ∷ taken) a) 0 j (omega arith) (omega (arith, k)) in
    let less = less_is t u (head_below nat_cmp t (u ∷ taken) a).0 in
    omega (arith, up, less)

pub goes_up : (taken : List ℕ) (number low high middle : ℕ) → IsAscending nat_cmp taken → IsBetween taken number low high → middle < high → get_or taken middle 0 ≤ number + middle → IsBetween taken number (suc middle) high
goes_up taken number low high middle a b h k = record {
  order = h;
  inside = b.inside;
  passed = λ i m. let up = climbs taken a i middle (omega (arith, m)) (omega (arith, h, b.inside)) in omega (arith, up, k);
  kept = b.kept;
}

-- so many are passed over
pub ends : (taken : List ℕ) (number at : ℕ) → IsBetween taken number at at → number + at ≡ passing taken number
ends [] number at b = omega (arith, b.inside)
ends (t ∷ taken) number zero b =
    cond_both (nat_le t number) (passing taken (suc number)) number (λ p. number + 0 ≡ p)
    (λ k. absurd (omega (arith, b.kept (omega arith), leb-true t number k)))
    (λ _. omega arith)
ends (t ∷ taken) number (suc at) b =
    let rest : IsBetween taken (suc number) at at = record {
      order = omega arith;
      inside = omega (arith, b.inside);
      passed = λ i h. let one = b.passed (suc i) (omega (arith, h)) in omega (arith, one);
      kept = λ h. let one = b.kept (omega (arith, h)) in omega (arith, one);
    } in
    cond_both (nat_le t number) (passing taken (suc number)) number (λ p. number + suc at ≡ p)
    (λ _. let same = ends taken (suc number) at rest in omega (arith, same))
    (λ k. absurd (omega (arith, b.passed 0 (omega arith), leb-false t number k)))
