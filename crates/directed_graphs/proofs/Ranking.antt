-- Orders and cycles by ranks.
use Rattle.std.proofs.Common.{◌<◌, ◌≤◌, ◌⊎◌, inl, inr, ℕ, List, [], ◌∷◌, length, subst, arith}
use Rattle.std.specs.Prelude.{Contains}
use Rattle.std.specs.List.Sorted.{IsNonDecreasingBy}
use Rattle.std.proofs.lemmas.List.Sorted.{Contains-permutation, IsNonDecreasingBy-drop}
use Rattle.owl_list.proofs.AscendingLaws.{in_cases, in_head, in_tail}
use Rattle.directed_graphs.specs.Cycles.{IsOnCycle, IsOrder, Leads, StandBehind, one_more, one_step, successors}
use Rattle.directed_graphs.proofs.CycleLaws.{begins_within, in_range}
use Rattle.directed_graphs.specs.Ranks.{AreByRank, GoesDown, NoneGoesUp, rank_in}

module _ (edges : List (List ℕ)) (ranks : List ℕ) where
  -- where no edge leads up, no way does
  leads_no_higher : NoneGoesUp edges ranks → (from to : ℕ) → Leads edges from to → rank_in ranks to ≤ rank_in ranks from
  leads_no_higher none from to (one_step _ _ h) = none from (begins_within edges from to h) to h
  leads_no_higher none from to (one_more _ next _ h more) =
      let first = none from (begins_within edges from next h) next h in
      let rest = leads_no_higher none next to more in
      omega arith

  -- a node from which all edges lead down is then on no cycle
  below_by_ranks : NoneGoesUp edges ranks → (node to : ℕ) → GoesDown edges ranks node → Leads edges node to → rank_in ranks to < rank_in ranks node
  below_by_ranks none node to down (one_step _ _ h) = down to h
  below_by_ranks none node to down (one_more _ next _ h more) =
      let lower = down next h in
      let rest = leads_no_higher none next to more in
      omega arith

  pub clear_by_ranks : NoneGoesUp edges ranks → (node : ℕ) → GoesDown edges ranks node → IsOnCycle edges node → ⊥
  clear_by_ranks none node down cycle = let below = below_by_ranks none node node down cycle in omega arith

  -- edges to nodes lead to lower ranks
  module _ (down : (from next : ℕ) → Contains (successors edges from) next → next < length edges → rank_in ranks next < rank_in ranks from) where
    first_least : (node : ℕ) (nodes : List ℕ) → IsNonDecreasingBy (rank_in ranks) (node ∷ nodes) → (other : ℕ) → Contains (node ∷ nodes) other → rank_in ranks node ≤ rank_in ranks other
    first_least node nodes up other m =
        subst (λ x. rank_in ranks node ≤ rank_in ranks x) m.2 (up 0 m.0 other (omega arith) m.1)

    -- nodes in order of ranks stand behind those to which their edges lead
    behind_by_ranks : (before nodes : List ℕ) → IsNonDecreasingBy (rank_in ranks) nodes → ((node : ℕ) → node < length edges → Contains before node ⊎ Contains nodes node) → StandBehind edges before nodes
    behind_by_ranks before [] up all = tt
    behind_by_ranks before (node ∷ nodes) up all = (
      λ next step within. elim (all next within) [
        | inl b ↦ b
        | inr m ↦
            let lower = down node next step within in
            let least = first_least node nodes up next m in
            absurd (omega arith)
      ],
      behind_by_ranks (node ∷ before) nodes (IsNonDecreasingBy-drop (rank_in ranks) 1 (node ∷ nodes) up) (λ other within. elim (all other within) [
        | inl b ↦ inl (in_tail node before other b)
        | inr m ↦ elim (in_cases node nodes other m) [
          | inl e ↦ inl (subst (λ x. Contains (node ∷ before) x) e (in_head node before))
          | inr n ↦ inr n
        ]
      ]),
    )

    pub order_by_ranks : (nodes : List ℕ) → AreByRank ranks (length edges) nodes → IsOrder edges nodes
    order_by_ranks nodes sorted = record {
      all = sorted.all;
      behind = behind_by_ranks [] nodes sorted.ascending (λ node within. inr (Contains-permutation _ nodes node sorted.all (in_range (length edges) node within)));
    }
