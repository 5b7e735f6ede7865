-- Laws of ways, and of orders.
use Rattle.std.proofs.Common.{◌<◌, inl, inr, ℕ, List, [], ◌∷◌, length, subst, sym, ◌∙◌, arith}
use Rattle.std.specs.Prelude.{Contains}
use Rattle.std.specs.List.{range_with_len}
use Rattle.std.proofs.lemmas.List.FromFn.{get_or-range_with_len, length-range_with_len}
use Rattle.std.proofs.lemmas.List.Sorted.{Contains-permutation}
use Rattle.owl_list.proofs.AscendingLaws.{in_none, in_cases, in_head, in_tail}
use Rattle.directed_graphs.specs.Cycles.{IsOnCycle, IsOrder, Leads, StandBehind, one_more, one_step, successors}
pub use Rattle.graph_walks.proofs.EdgeLaws.{begins_within, graph_size}

-- a number below so many is among them
pub in_range : (count node : ℕ) → node < count → Contains (range_with_len 0 count) node
in_range count node h = (node, subst (λ n. node < n) (sym (length-range_with_len 0 count)) h, get_or-range_with_len 0 count node node h ∙ omega arith)

module _ (edges : List (List ℕ)) where
  pub leads_within : (from to : ℕ) → Leads edges from to → from < length edges
  leads_within from to (one_step _ _ h) = begins_within edges from to h
  leads_within from to (one_more _ next _ h more) = begins_within edges from next h

  pub leads_further : (from next to : ℕ) → Leads edges from next → Contains (successors edges next) to → Leads edges from to
  leads_further from next to (one_step _ _ h) last = one_more from next to h (one_step next to last)
  leads_further from next to (one_more _ other _ h more) last = one_more from other to h (leads_further other next to more last)

  -- what is true of the nodes to which the edges of a node lead, and further along each edge, is true wherever ways lead from it
  pub true_behind : (P : ℕ → Type 0) → ((from next : ℕ) → P from → Contains (successors edges from) next → next < length edges → P next) → (from to : ℕ) → ((next : ℕ) → Contains (successors edges from) next → next < length edges → P next) → Leads edges from to → to < length edges → P to
  true_behind P further from to first (one_step _ _ h) within = first to h within
  true_behind P further from to first (one_more _ next _ h more) within =
      let p = first next h (leads_within next to more) in true_behind P further next to (λ z m. further next z p m) more within

  -- nodes that stand before others: none is on a cycle, and no edge leads away from them
  record AreBefore (before : List ℕ) : Type 0 where
    clear : (node : ℕ) → Contains before node → IsOnCycle edges node → ⊥
    closed : (from next : ℕ) → Contains before from → Contains (successors edges from) next → next < length edges → Contains before next

  none_before : AreBefore []
  none_before = record { clear = λ node m. absurd (in_none node m); closed = λ from next m. absurd (in_none from m) }

  module _ (before : List ℕ) (node : ℕ) (h : AreBefore before) (behind : (next : ℕ) → Contains (successors edges node) next → next < length edges → Contains before next) where
    node_clear : IsOnCycle edges node → ⊥
    node_clear cycle =
        h.clear node (true_behind (Contains before) h.closed node node behind cycle (leads_within node node cycle)) cycle

    one_before : AreBefore (node ∷ before)
    one_before = record {
      clear = λ other m cycle. elim (in_cases node before other m) [
        | inl e ↦ node_clear (subst (IsOnCycle edges) (sym e) cycle)
        | inr n ↦ h.clear other n cycle
      ];
      closed = λ from next m step within. in_tail node before next (elim (in_cases node before from m) [
        | inl e ↦ behind next (subst (λ x. Contains (successors edges x) next) (sym e) step) within
        | inr n ↦ h.closed from next n step within
      ]);
    }

  clear_behind : (before nodes : List ℕ) → AreBefore before → StandBehind edges before nodes → (node : ℕ) → Contains nodes node → IsOnCycle edges node → ⊥
  clear_behind before [] h behind node m cycle = in_none node m
  clear_behind before (first ∷ nodes) h behind node m cycle =
      let more = one_before before first h behind.0 in
      elim (in_cases first nodes node m) [
        | inl e ↦ more.clear node (subst (λ x. Contains (first ∷ before) x) e (in_head first before)) cycle
        | inr n ↦ clear_behind (first ∷ before) nodes more behind.1 node n cycle
      ]

  -- where the nodes have an order, none is on a cycle
  pub order_is_clear : (nodes : List ℕ) → IsOrder edges nodes → (node : ℕ) → IsOnCycle edges node → ⊥
  order_is_clear nodes order node cycle =
      clear_behind [] nodes none_before order.behind node
      (Contains-permutation _ nodes node order.all (in_range (length edges) node (leads_within node node cycle))) cycle
