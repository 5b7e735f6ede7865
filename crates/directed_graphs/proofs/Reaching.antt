-- What ways lead to: by walks of no step or more from the successors of a node. In a graph without cycles these are more than those from a successor.
use Rattle.std.proofs.Common.{◌≡◌, ◌↔◌, ◌<◌, ◌≤◌, ◌+◌, ◌++◌, inl, inr, ℕ, zero, suc, Bool, true, false, cond, List, [], ◌∷◌, length, get_or, refl, sym, ◌∙◌, subst, arith}
use Rattle.std.specs.Prelude.{Contains}
use Rattle.std.specs.List.{count_by}
use Rattle.std.proofs.lemmas.Bool.{true≢false}
use Rattle.std.proofs.lemmas.Bool.Decides.{leb_tells}
use Rattle.std.proofs.lemmas.List.{get_or_append_left, get_or_past, get_or_push, length-append}
use Rattle.std.proofs.lemmas.List.Sums.{sum_by-cons}
use Rattle.directed_graphs.specs.Cycles.{HasNoCycle, Leads, one_more, one_step, successors}
use Rattle.directed_graphs.specs.Reach.{AreReachCounts, CountsReached}
use Rattle.directed_graphs.proofs.CycleLaws.{leads_further}
use Rattle.graph_walks.specs.Walks.{IsReached, Walks, here, onward}
use Rattle.graph_walks.proofs.EdgeLaws.{pairs_of, pairs_tell}
use Rattle.graph_walks.proofs.WalkLaws.{walk_on}
use Rattle.graph_walks.proofs.WalkLaws.{one_step as one_pair}

module _ (edges : List (List ℕ)) where
  leads_reached : (from to : ℕ) → Leads edges from to → IsReached (pairs_of edges) (successors edges from) to
  leads_reached from to (one_step _ _ h) = record { start = to; among = h; way = here to }
  leads_reached from to (one_more _ next _ h more) =
      let r = leads_reached next to more in
      let step = one_pair (pairs_of edges) next r.start ((pairs_tell edges next r.start).0 r.among) in
      record { start = next; among = h; way = walk_on (pairs_of edges) next r.start to step r.way }

  walk_leads : (from next to : ℕ) → Contains (successors edges from) next → Walks (pairs_of edges) next to → Leads edges from to
  walk_leads from next to h (here _) = one_step from next h
  walk_leads from next to h (onward _ last _ way step) =
      leads_further edges from last to (walk_leads from next last h way) ((pairs_tell edges last to).1 step)

  -- a way of one step or more begins at a successor
  pub reached_leads : (from to : ℕ) → IsReached (pairs_of edges) (successors edges from) to ↔ Leads edges from to
  reached_leads from to = (λ r. walk_leads from r.start to r.among r.way, leads_reached from to)

abbrev count : List Bool → ℕ
count marks = count_by (λ mark. mark) marks

pub marked_within : (marks : List Bool) (k : ℕ) → get_or marks k false ≡ true → k < length marks
marked_within marks k h = elim (leb_tells (length marks) k) as (λ _. k < length marks) [
  | inl past ↦ absurd (true≢false (sym h ∙ get_or_past marks k false past.1))
  | inr before ↦ before.1
]

not_true : (b : Bool) → (b ≡ true → ⊥) → b ≡ false
not_true true h = absurd (h refl)
not_true false h = refl

-- where the ones are marked, the others are
abbrev AreWithin : List Bool → List Bool → Type 0
AreWithin xs ys = (k : ℕ) → get_or xs k false ≡ true → get_or ys k false ≡ true

one_at_most : (x y : Bool) → (x ≡ true → y ≡ true) → cond x 1 0 ≤ cond y 1 0
one_at_most true true h = omega arith
one_at_most true false h = absurd (true≢false (sym (h refl)))
one_at_most false y h = omega arith

count_cons : (x : Bool) (xs : List Bool) → count (x ∷ xs) ≡ cond x 1 0 + count xs
count_cons x xs = sum_by-cons (λ b. cond b 1 0) x xs

no_more : (xs ys : List Bool) → AreWithin xs ys → count xs ≤ count ys
no_more [] ys h = omega arith
no_more (true ∷ xs) [] h = absurd (true≢false (sym (h 0 refl)))
no_more (false ∷ xs) [] h = omega (arith, count_cons false xs, no_more xs [] (λ k. h (suc k)))
no_more (x ∷ xs) (y ∷ ys) h =
    omega (arith, one_at_most x y (h 0), no_more xs ys (λ k. h (suc k)), count_cons x xs, count_cons y ys)

-- and one more
more : (xs ys : List Bool) (k : ℕ) → AreWithin xs ys → get_or xs k false ≡ false → get_or ys k false ≡ true → count xs < count ys
more xs [] k h free found = absurd (true≢false (sym found))
more [] (true ∷ ys) zero h free found = omega (arith, count_cons true ys)
more [] (false ∷ ys) zero h free found = absurd (true≢false (sym found))
more [] (y ∷ ys) (suc k) h free found = omega (arith, count_cons y ys, more [] ys k (λ n. h (suc n)) free found)
more (true ∷ xs) (y ∷ ys) zero h free found = absurd (true≢false free)
more (false ∷ xs) (true ∷ ys) zero h free found =
    omega (arith, no_more xs ys (λ n. h (suc n)), count_cons false xs, count_cons true ys)
more (false ∷ xs) (false ∷ ys) zero h free found = absurd (true≢false (sym found))
more (x ∷ xs) (y ∷ ys) (suc k) h free found =
    omega (arith, one_at_most x y (h 0), more xs ys k (λ n. h (suc n)) free found, count_cons x xs, count_cons y ys)

pub lower_reach : (edges : List (List ℕ)) → HasNoCycle edges → (from next a b : ℕ) → CountsReached edges from a → CountsReached edges next b → Contains (successors edges from) next → next < length edges → b < a
lower_reach edges none from next a b all some step within =
    let further : AreWithin some.marks all.marks = λ k marked.
    let inside : k < length edges = subst (λ n. k < n) some.each.size (marked_within some.marks k marked) in
    (all.each.told k inside).1 (one_more from next k step ((some.each.told k inside).0 marked)) in
    let free : get_or some.marks next false ≡ false = not_true (get_or some.marks next false) (λ marked. none next ((some.each.told next within).0 marked)) in
    let found : get_or all.marks next false ≡ true = (all.each.told next within).1 (one_step from next step) in
    omega (arith, more some.marks all.marks next further free found, some.many, all.many)

pub one_more_count : (edges : List (List ℕ)) (counts : List ℕ) (count : ℕ) → AreReachCounts edges counts → CountsReached edges (length counts) count → AreReachCounts edges (counts ++ count ∷ [])
one_more_count edges counts count are one node within =
    elim (leb_tells (length counts) node) as (λ _. CountsReached edges node (get_or (counts ++ count ∷ []) node 0)) [
      | inl past ↦
          let here : length counts ≡ node = omega (arith, past.1, within, length-append counts (count ∷ [])) in
          subst (CountsReached edges node) (sym (get_or_push counts count 0 node here)) (subst (λ n. CountsReached edges n count) here one)
      | inr before ↦ subst (CountsReached edges node) (sym (get_or_append_left counts (count ∷ []) 0 node before.1)) (are node before.1)
    ]
