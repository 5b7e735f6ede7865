-- What some trees of a list weigh, each once.
use Rattle.std.proofs.Common.{◌≡◌, ◌<◌, ◌≤◌, inl, inr, ℕ, List, [], ◌∷◌, ◌++◌, length, map, Contains, sym, ap, ◌∙◌, subst, arith}
use Rattle.std.specs.List.{sum_by}
use Rattle.std.proofs.lemmas.List.Sums.{sum_by-append, sum_by-cons}
use Rattle.std.proofs.lemmas.List.Elements.{Contains-append_cases, Contains-append_left, Contains-append_right}
use Rattle.owl_arena.specs.Held.{AreHeld, tree_at, trees_at}
use Rattle.owl_arena.proofs.HeldLaws.{kids_canonical}
use Rattle.owl_arena.specs.Shared.{AreShared}
use Rattle.owl_doc.specs.Documents.{weight_at}
use Rattle.owl_list.specs.Ascending.{AreApart}
use Rattle.owl_list.proofs.AscendingLaws.{all_from, all_in, ascending_holds, from_map, in_cases, in_head, in_map, in_none, in_tail}
use Rattle.owl_tree.specs.Canonical.{canonical}
use Rattle.owl_tree.specs.Ontologies.{canonical_list, list_weight}
use Rattle.owl_tree.specs.Order.{tree_cmp}
use Rattle.owl_tree.specs.OrderLaws.{only_equal_trees_tie, trees_total}
use Rattle.owl_tree.specs.Trees.{Tree, weight}

module _ {X : Type 0} where
  -- what stands before and behind an element
  record StandsIn (ys : List X) (x : X) : Type 0 where
    before : List X
    behind : List X
    whole : ys ≡ before ++ x ∷ behind

  stands_in : (ys : List X) (x : X) → Contains ys x → StandsIn ys x
  stands_in [] x m = absurd (in_none x m)
  stands_in (y ∷ ys) x m =
      elim (in_cases y ys x m) [
        | inl e ↦ record { before = []; behind = ys; whole = ap (λ (z : X). z ∷ ys) e }
        | inr n ↦ let s = stands_in ys x n in record { before = y ∷ s.before; behind = s.behind; whole = ap (λ (zs : List X). y ∷ zs) s.whole }
      ]

  -- an element that is not the one stands before or behind it
  around : (before behind : List X) (x z : X) → (x ≡ z → ⊥) → Contains (before ++ x ∷ behind) z → Contains (before ++ behind) z
  around before behind x z other m =
      elim (Contains-append_cases before (x ∷ behind) z m) [
        | inl n ↦ Contains-append_left before behind z n
        | inr n ↦ elim (in_cases x behind z n) [ inl e ↦ absurd (other e) | inr k ↦ Contains-append_right before behind z k ]
      ]

  -- elements that are apart, each of which is in the other list, sum up to no more than that
  pub sum_within : (f : X → ℕ) (xs ys : List X) → AreApart xs → ((x : X) → Contains xs x → Contains ys x) → sum_by f xs ≤ sum_by f ys
  sum_within f [] ys apart within = omega arith
  sum_within f (x ∷ xs) ys apart within =
      let s = stands_in ys x (within x (in_head x xs)) in
      let rest = sum_within f xs (s.before ++ s.behind) apart.1 (λ z m. around s.before s.behind x z (λ e. apart.0 (subst (Contains xs) (sym e) m)) (subst (λ (zs : List X). Contains zs z) s.whole (within z (in_tail x xs z m)))) in
      let first = sum_by-cons f x xs in
      let all = ap (sum_by f) s.whole ∙ sum_by-append f s.before (x ∷ s.behind) in
      let behind = sum_by-cons f x s.behind in
      let joined = sum_by-append f s.before s.behind in
      omega (arith, rest, first, all, behind, joined)

module _ (ts : List Tree) (shared : AreShared ts) where
  -- numbers that are apart are of trees that are apart
  trees_apart : (ids : List ℕ) → AreHeld ts ids → AreApart ids → AreApart (trees_at ts ids)
  trees_apart [] held apart = tt
  trees_apart (id ∷ ids) held apart = (
    λ m.
        let v = from_map (tree_at ts) ids (tree_at ts id) m in
        let inside = all_in (λ (k : ℕ). k < length ts) ids v.element held.1 v.inside in
        apart.0 (subst (Contains ids) (shared.one_number v.element id inside held.0 v.value) v.inside),
    trees_apart ids held.1 apart.1,
  )

  in_canonical : (all : List ℕ) (id : ℕ) → AreHeld ts all → Contains all id → Contains (canonical_list (trees_at ts all)) (tree_at ts id)
  in_canonical all id held m =
      (ascending_holds tree_cmp trees_total only_equal_trees_tie (map canonical (trees_at ts all)) (tree_at ts id)).1
      (subst (λ (us : List Tree). Contains us (tree_at ts id)) (sym (kids_canonical ts shared all held)) (in_map (tree_at ts) all id m))

  -- some of the numbers, each once, weigh no more than all
  pub part_weighs : (ids all : List ℕ) → AreHeld ts all → AreApart ids → ((id : ℕ) → Contains ids id → Contains all id) → weight_at ts ids ≤ list_weight (trees_at ts all)
  part_weighs ids all held apart within =
      sum_within weight (trees_at ts ids) (canonical_list (trees_at ts all))
      (trees_apart ids (all_from (λ (k : ℕ). k < length ts) ids (λ id m. all_in (λ (k : ℕ). k < length ts) all id held (within id m))) apart)
      (λ t m.
      let v = from_map (tree_at ts) ids t m in
      subst (Contains (canonical_list (trees_at ts all))) v.value (in_canonical all v.element held (within v.element v.inside)))
