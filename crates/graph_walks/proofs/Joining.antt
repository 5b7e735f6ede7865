-- Whether a walk leads from one number to another is decided.
use Rattle.std.proofs.Common.{◌⊎◌, inl, inr, ℕ, List, [], ◌∷◌, sym, subst}
use Rattle.std.specs.Prelude.{Contains}
use Rattle.std.proofs.lemmas.Bool.{cases_eq}
use Rattle.owl_list.proofs.AscendingLaws.{in_cases, in_head, in_none, in_tail}
use Rattle.graph_walks.specs.Walks.{IsReached, Walks, here, onward}
use Rattle.graph_walks.proofs.WalkLaws.{first_step, walk_among, walk_keeps, walk_on}

-- by one more pair a walk leads as without it, or to its first and on from its second
module _ {P : Type 0} (pair : P × P) (pairs : List (P × P)) where
  abbrev Splits : P → P → Type 0
  Splits x y = Walks pairs x y ⊎ (Walks pairs x pair.0 × Walks pairs pair.1 y)

  splits_on : (x y z : P) → Contains (pair ∷ pairs) (y, z) → Splits x y → Splits x z
  splits_on x y z step before =
      elim (in_cases pair pairs (y, z) step) as (λ _. Splits x z) [
        | inl same ↦
            let ends : Walks pairs pair.1 z = subst (λ (p : P × P). Walks pairs pair.1 p.1) same (here pair.1) in
            elim before as (λ _. Splits x z) [
              | inl way ↦ inr (subst (λ (p : P × P). Walks pairs x p.0) (sym same) way, ends)
              | inr ways ↦ inr (ways.0, ends)
            ]
        | inr n ↦ elim before as (λ _. Splits x z) [
          | inl way ↦ inl (onward x y z way n)
          | inr ways ↦ inr (ways.0, onward pair.1 y z ways.1 n)
        ]
      ]

  pub split_walk : (x y : P) → Walks (pair ∷ pairs) x y → Splits x y
  split_walk x y way = walk_keeps (pair ∷ pairs) (λ z. Splits x z) (λ z w step before. splits_on x z w step before) x y way (inl (here x))

  pub more_walk : (x y : P) → Walks pairs x y → Walks (pair ∷ pairs) x y
  more_walk x y way = walk_among pairs (pair ∷ pairs) (λ z w m. in_tail pair pairs (z, w) m) x y way

  pub joint_walk : (x y : P) → Walks pairs x pair.0 → Walks pairs pair.1 y → Walks (pair ∷ pairs) x y
  joint_walk x y first second =
      walk_on (pair ∷ pairs) x pair.1 y
      (onward x pair.0 pair.1 (more_walk x pair.0 first) (in_head pair pairs))
      (more_walk pair.1 y second)

pub leads_or_not : (pairs : List (ℕ × ℕ)) (x y : ℕ) → Walks pairs x y ⊎ (Walks pairs x y → ⊥)
leads_or_not [] x y =
    elim (cases_eq x y) as (λ _. Walks {P = ℕ} [] x y ⊎ (Walks {P = ℕ} [] x y → ⊥)) [
      | inl same ↦ inl (subst (λ (z : ℕ). Walks {P = ℕ} [] x z) same (here x))
      | inr differs ↦ inr (λ way. elim (first_step {P = ℕ} [] x y way) as (λ _. ⊥) [
        | inl same ↦ differs same
        | inr begins ↦ in_none {X = ℕ × ℕ} (x, begins.next) begins.step
      ])
    ]
leads_or_not (pair ∷ pairs) x y =
    elim (leads_or_not pairs x y) as (λ _. Walks (pair ∷ pairs) x y ⊎ (Walks (pair ∷ pairs) x y → ⊥)) [
      | inl way ↦ inl (more_walk pair pairs x y way)
      | inr none ↦ elim (leads_or_not pairs x pair.0) as (λ _. Walks (pair ∷ pairs) x y ⊎ (Walks (pair ∷ pairs) x y → ⊥)) [
        | inl first ↦ elim (leads_or_not pairs pair.1 y) as (λ _. Walks (pair ∷ pairs) x y ⊎ (Walks (pair ∷ pairs) x y → ⊥)) [
          | inl second ↦ inl (joint_walk pair pairs x y first second)
          | inr never ↦ inr (λ way. elim (split_walk pair pairs x y way) as (λ _. ⊥) [ inl w ↦ none w | inr ws ↦ never ws.1 ])
        ]
        | inr never ↦ inr (λ way. elim (split_walk pair pairs x y way) as (λ _. ⊥) [ inl w ↦ none w | inr ws ↦ never ws.0 ])
      ]
    ]

-- and whether one of some leads there
pub some_start : (pairs : List (ℕ × ℕ)) (starts : List ℕ) (x : ℕ) → IsReached pairs starts x ⊎ ((start : ℕ) → Contains starts start → Walks pairs start x → ⊥)
some_start pairs [] x = inr (λ start m way. in_none start m)
some_start pairs (first ∷ starts) x =
    elim (leads_or_not pairs first x) as (λ _. IsReached pairs (first ∷ starts) x ⊎ ((start : ℕ) → Contains (first ∷ starts) start → Walks pairs start x → ⊥)) [
      | inl way ↦ inl (record { start = first; among = in_head first starts; way = way })
      | inr none ↦ elim (some_start pairs starts x) as (λ _. IsReached pairs (first ∷ starts) x ⊎ ((start : ℕ) → Contains (first ∷ starts) start → Walks pairs start x → ⊥)) [
        | inl s ↦ inl (record { start = s.start; among = in_tail first starts s.start s.among; way = s.way })
        | inr never ↦ inr (λ start m way. elim (in_cases first starts start m) as (λ _. ⊥) [
          | inl same ↦ none (subst (λ (z : ℕ). Walks pairs z x) (sym same) way)
          | inr n ↦ never start n way
        ])
      ]
    ]
