-- In an order of a graph's nodes all stand, and each behind those to which it leads.
use Rattle.std.specs.Prelude.{◌≡◌, ◌⊎◌, ◌<◌, ℕ, List, [], ◌∷◌, ◌++◌, Contains, length}
use Rattle.std.specs.List.{range_with_len}
use Rattle.std.proofs.Common.{inl, inr, sym, ap, ◌∙◌, subst, arith}
use Rattle.std.proofs.lemmas.List.{length-map}
use Rattle.std.proofs.lemmas.List.FromFn.{get_or-range_with_len, length-range_with_len}
use Rattle.std.proofs.lemmas.List.Sorted.{Contains-permutation, IsPermutation-sym, length_permutation}
use Rattle.std.proofs.lemmas.Option.{slice_get_within}
use Rattle.directed_graphs.specs.Cycles.{StandBehind, successors}
use Rattle.directed_graphs.proofs.CycleLaws.{in_range}
use Rattle.owl_list.proofs.AscendingLaws.{in_cases, in_head, in_none, in_tail}
use Rattle.rdf_graph.specs.declared.triple.Triple.{Triple}
use Rattle.rdf_roles.specs.Tables.{IsNodeOrder, IsTableOf, LeadsBetween, RoleTable, blank_nodes, with_role}

from_range : (count number : ℕ) → Contains (range_with_len 0 count) number → number < count
from_range count number m =
    let within : m.0 < count = subst (λ n. m.0 < n) (length-range_with_len 0 count) m.1 in
    subst (λ n. n < count) (omega (arith, sym (get_or-range_with_len 0 count m.0 number within) ∙ m.2)) within

-- a number of the order is that of a node of the table, and each of these stands in it

pub is_node : (g : List Triple) (order : List ℕ) → IsNodeOrder g order → (number : ℕ) → Contains order number → number < length (blank_nodes g)
is_node g order is number m =
    subst (λ n. number < n) is.are.each (from_range (length is.edges) number (Contains-permutation order _ number (IsPermutation-sym _ order is.is_order.all) m))

pub is_of_node : (g : List Triple) (roles : RoleTable) → IsTableOf g roles → (number : ℕ) → Contains roles.order number → number < length roles.nodes
is_of_node g roles table number m =
    subst (λ n. number < n) (sym (ap length table.nodes ∙ length-map (blank_nodes g) (with_role g))) (is_node g roles.order table.order number m)

pub is_in_order : (g : List Triple) (roles : RoleTable) → IsTableOf g roles → (number : ℕ) → number < length roles.nodes → Contains roles.order number
is_in_order g roles table number inside =
    let is = table.order in
    let as_many : length roles.nodes ≡ length is.edges = ap length table.nodes ∙ length-map (blank_nodes g) (with_role g) ∙ sym is.are.each in
    Contains-permutation _ roles.order number is.is_order.all (in_range (length is.edges) number (subst (λ n. number < n) as_many inside))

pub length_of_order : (g : List Triple) (roles : RoleTable) → IsTableOf g roles → length roles.order ≡ length (blank_nodes g)
length_of_order g roles table =
    let is = table.order in
    length_permutation (range_with_len 0 (length is.edges)) roles.order is.is_order.all ∙ length-range_with_len 0 (length is.edges) ∙ is.are.each

-- the front of an order

module _ (edges : List (List ℕ)) where
  in_front : (x next : ℕ) (before xs : List ℕ) → Contains (x ∷ before) next ⊎ Contains xs next → Contains before next ⊎ Contains (x ∷ xs) next
  in_front x next before xs (inl m) =
      elim (in_cases x before next m) [
        | inl e ↦ inr (subst (Contains (x ∷ xs)) e (in_head x xs))
        | inr n ↦ inl n
      ]
  in_front x next before xs (inr m) = inr (in_tail x xs next m)

  stands_behind : (before xs : List ℕ) (n : ℕ) (ys : List ℕ) → StandBehind edges before (xs ++ n ∷ ys) → (next : ℕ) → Contains (successors edges n) next → next < length edges → Contains before next ⊎ Contains xs next
  stands_behind before [] n ys h next s w = inl (h.0 next s w)
  stands_behind before (x ∷ xs) n ys h next s w = in_front x next before xs (stands_behind (x ∷ before) xs n ys h.1 next s w)

  stand_behind : (before xs ys : List ℕ) → StandBehind edges before (xs ++ ys) → (n : ℕ) → Contains xs n → (next : ℕ) → Contains (successors edges n) next → next < length edges → Contains before next ⊎ Contains xs next
  stand_behind before [] ys h n m next s w = absurd (in_none n m)
  stand_behind before (x ∷ xs) ys h n m next s w =
      elim (in_cases x xs n m) [
        | inl e ↦ inl (h.0 next (subst (λ k. Contains (successors edges k) next) (sym e) s) w)
        | inr k ↦ in_front x next before xs (stand_behind (x ∷ before) xs ys h.1 n k next s w)
      ]

in_none_or : (n : ℕ) (xs : List ℕ) → Contains [] n ⊎ Contains xs n → Contains xs n
in_none_or n xs (inl m) = absurd (in_none n m)
in_none_or n xs (inr m) = m

-- the nodes to which any of these leads are among these
abbrev pub AreClosed : List Triple → List ℕ → Type 0
AreClosed g passed = (i j : ℕ) → Contains passed i → LeadsBetween g i j → Contains passed j

module _ (g : List Triple) (order : List ℕ) (is : IsNodeOrder g order) where
  leads_within : (i j : ℕ) → LeadsBetween g i j → j < length is.edges
  leads_within i j leads = subst (λ n. j < n) (sym is.are.each) (slice_get_within (blank_nodes g) j leads.to leads.to_at)

  pub front_is_closed : (passed rest : List ℕ) → order ≡ passed ++ rest → AreClosed g passed
  front_is_closed passed rest split i j m leads =
      in_none_or j passed
      (stand_behind is.edges [] passed rest (subst (StandBehind is.edges []) split is.is_order.behind) i m j ((is.are.leads i j).1 leads) (leads_within i j leads))

  pub leads_to_front : (passed : List ℕ) (number : ℕ) (rest : List ℕ) → order ≡ passed ++ number ∷ rest → (next : ℕ) → LeadsBetween g number next → Contains passed next
  leads_to_front passed number rest split next leads =
      in_none_or next passed
      (stands_behind is.edges [] passed number rest (subst (StandBehind is.edges []) split is.is_order.behind) next ((is.are.leads number next).1 leads) (leads_within number next leads))
