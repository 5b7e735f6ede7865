-- Laws of the places of trees.
use Rattle.std.proofs.Common.{◌≡◌, ◌<◌, ℕ, Bool, true, false, List, length, refl, sym, ap, ◌∙◌, subst}
use Rattle.std.specs.declared.cmp.Ordering.{Ordering}
use Rattle.std.specs.declared.cmp.Ordering.TheVariants.{Less, Equal, Greater}
use Rattle.std.specs.Ordering.{is_eq}
use native.Mathlib.Omega.{arith}
use Rattle.std.proofs.lemmas.Cmp.{tied_itself}
use Rattle.std.proofs.lemmas.List.Sums.{passes_at_first, position_or_len_is}
use Rattle.owl_arena.specs.Held.{tree_at}
use Rattle.owl_arena.specs.Shared.{HaveOneNumber}
use Rattle.owl_tree.specs.declared.tag.Tag.TheVariants as tag
use Rattle.owl_tree.specs.Order.{tree_cmp}
use Rattle.owl_tree.specs.OrderLaws.{only_equal_trees_tie, trees_total}
use Rattle.owl_tree.specs.Trees.{Tree, node, no_kids}
use Rattle.dl_rules.specs.Places.{place_of}

tied : (o : Ordering) → is_eq o ≡ true → o ≡ Equal
tied Less e = absurd (cc)
tied Equal e = refl
tied Greater e = absurd (cc)

false_unless : (b : Bool) → (b ≡ true → ⊥) → b ≡ false
false_unless true h = absurd (h refl)
false_unless false h = refl

-- trees are equal where their order says so
pub equal_trees : (t u : Tree) → is_eq (tree_cmp t u) ≡ true → t ≡ u
equal_trees t u e = only_equal_trees_tie t u (tied (tree_cmp t u) e)

same_tree : (t : Tree) → is_eq (tree_cmp t t) ≡ true
same_tree t = ap is_eq (tied_itself trees_total t)

module _ (ts : List Tree) (one : HaveOneNumber ts) where
  -- the place of a tree is its number
  pub place_is : (id : ℕ) → id < length ts → place_of ts (tree_at ts id) ≡ id
  place_is id h =
      position_or_len_is (λ u. is_eq (tree_cmp u (tree_at ts id))) ts id (node tag.Notes no_kids) (omega (arith, h))
      (λ k before. false_unless (is_eq (tree_cmp (tree_at ts k) (tree_at ts id)))
      (λ e. let same = one k id (omega (arith, before, h)) h (equal_trees (tree_at ts k) (tree_at ts id) e) in omega (arith, same, before)))
      (λ _. same_tree (tree_at ts id))

-- in its place stands the tree
pub tree_there : (ts : List Tree) (t : Tree) → place_of ts t < length ts → tree_at ts (place_of ts t) ≡ t
tree_there ts t h = equal_trees (tree_at ts (place_of ts t)) t (passes_at_first (λ u. is_eq (tree_cmp u t)) ts (node tag.Notes no_kids) h)

-- a tree that stands there has its place to itself
pub places_apart : (ts : List Tree) (t u : Tree) → place_of ts u < length ts → place_of ts t ≡ place_of ts u → t ≡ u
places_apart ts t u h e =
    sym (tree_there ts t (subst (λ (n : ℕ). n < length ts) (sym e) h)) ∙ (ap (tree_at ts) e ∙ tree_there ts u h)
