-- Groups of axioms that are counted one behind the other.
use Rattle.std.proofs.Common.{◌≡◌, ◌+◌, ℕ, zero, suc, List, [], ◌∷◌, Option, None, Some, take, drop, refl, sym, ap, ◌∙◌, subst, arith}
use Rattle.std.proofs.lemmas.List.Sums.{sum_by-cons}
use Rattle.owl_arena.specs.Held.{tree_at, trees_at}
use Rattle.owl_tree.specs.Trees.{Tree}
use Rattle.rdf_counts.specs.Counts.{Takes, groups_drawn, statement_drawn}
use Rattle.rdf_forward.specs.AxiomWalks.{sets_at}
use Rattle.rdf_forward.specs.BareOrder.{AreOrdered, IsGroup}
use Rattle.rdf_forward.proofs.Grouping.{group_with}
use Rattle.rdf_forward.proofs.GroupWriting.{groups_split}
use Rattle.rdf_mapping.specs.Drawing.{statement_of}
use Rattle.rdf_mapping.specs.Graphs.{Group, groups_of}

-- what is taken of the others is taken of all
pub record GroupsTaken (trees : List Tree) (start now : ℕ) (axioms left : List ℕ) : Type 0 where
  pub on : (r : Option ℕ) → Takes now r (groups_drawn (groups_of (trees_at trees left))) → Takes start r (groups_drawn (groups_of (trees_at trees axioms)))

pub groups_taken : (trees : List Tree) (start now : ℕ) (axioms left : List ℕ) → left ≡ [] → GroupsTaken trees start now axioms left → Takes start (Some now) (groups_drawn (groups_of (trees_at trees axioms)))
groups_taken trees start now axioms left e t = t.on (Some now) (omega arith)

module _ (trees : List Tree) where
  -- of the first group, and then of the others
  split_drawn : (id count : ℕ) (ids : List ℕ) → AreOrdered (trees_at trees (id ∷ ids)) → IsGroup trees (id ∷ ids) count → groups_drawn (groups_of (trees_at trees (id ∷ ids))) ≡ statement_drawn (statement_of (tree_at trees id)) + groups_drawn (groups_of (trees_at trees (drop count (id ∷ ids))))
  split_drawn id zero ids ordered group = absurd (omega (arith, group.some))
  split_drawn id (suc n) ids ordered group =
      let g = group_with (tree_at trees id) (sets_at trees (id ∷ take n ids)) in
      let others = groups_of (trees_at trees (drop n ids)) in
      ap groups_drawn (groups_split trees id n ids ordered group) ∙ sum_by-cons (λ (h : Group). statement_drawn h.statement) g others

  taken_before : (start now : ℕ) (axioms left rest others : List ℕ) (id count : ℕ) → left ≡ id ∷ rest → others ≡ drop count left → AreOrdered (trees_at trees left) → IsGroup trees left count → groups_drawn (groups_of (trees_at trees left)) ≡ statement_drawn (statement_of (tree_at trees id)) + groups_drawn (groups_of (trees_at trees others))
  taken_before start now axioms left rest others id count e f ordered group =
      ap (λ (ids : List ℕ). groups_drawn (groups_of (trees_at trees ids))) e
      ∙ split_drawn id count rest (subst (λ (ids : List ℕ). AreOrdered (trees_at trees ids)) e ordered) (subst (λ (ids : List ℕ). IsGroup trees ids count) e group)
      ∙ ap (λ (ids : List ℕ). statement_drawn (statement_of (tree_at trees id)) + groups_drawn (groups_of (trees_at trees ids))) (sym (f ∙ ap (drop count) e))

  pub next_taken : (start now new : ℕ) (axioms left rest others : List ℕ) (id count : ℕ) → left ≡ id ∷ rest → others ≡ drop count left → AreOrdered (trees_at trees left) → IsGroup trees left count → Takes now (Some new) (statement_drawn (statement_of (tree_at trees id))) → GroupsTaken trees start now axioms left → GroupsTaken trees start new axioms others
  next_taken start now new axioms left rest others id count e f ordered group one t =
      let both = taken_before start now axioms left rest others id count e f ordered group in
      record { on = λ r behind. t.on r (behind_taken r behind both) }
    where
      behind_taken : (r : Option ℕ) → Takes new r (groups_drawn (groups_of (trees_at trees others))) → groups_drawn (groups_of (trees_at trees left)) ≡ statement_drawn (statement_of (tree_at trees id)) + groups_drawn (groups_of (trees_at trees others)) → Takes now r (groups_drawn (groups_of (trees_at trees left)))
      behind_taken None behind both = omega (arith, one, behind, both)
      behind_taken (Some more) behind both = omega (arith, one, behind, both)

  pub group_out : (start now : ℕ) (axioms left rest : List ℕ) (id count : ℕ) (r : Option ℕ) → r ≡ None → left ≡ id ∷ rest → AreOrdered (trees_at trees left) → IsGroup trees left count → Takes now None (statement_drawn (statement_of (tree_at trees id))) → GroupsTaken trees start now axioms left → Takes start r (groups_drawn (groups_of (trees_at trees axioms)))
  group_out start now axioms left rest id count r none e ordered group one t =
      let both = taken_before start now axioms left rest (drop count left) id count e refl ordered group in
      subst (λ (o : Option ℕ). Takes start o (groups_drawn (groups_of (trees_at trees axioms)))) (sym none) (t.on None (omega (arith, one, both)))
