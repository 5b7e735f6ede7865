-- The order of trees that have one number each.
use Rattle.std.proofs.Common.{◌≡◌, ◌<◌, ℕ, Bool, true, false, not, ◌==◌, suc, List, [], ◌∷◌, Option, None, Some, length, refl, sym, ap, ◌∙◌, arith}
use Rattle.std.specs.Prelude.{nat_eq}
use Rattle.std.specs.List.{AllByRecursion}
use Rattle.std.specs.declared.cmp.Ordering.{Ordering}
use Rattle.std.specs.declared.cmp.Ordering.TheVariants.{Less, Equal, Greater}
use Rattle.std.specs.Ordering.{nat_cmp, ordering_index, ordering_then}
use Rattle.std.proofs.lemmas.Bool.{eqb-false, eqb-true}
use Rattle.std.proofs.lemmas.Bool.Decides.{nat_tests}
use Rattle.std.proofs.lemmas.Cmp.{tied_itself}
use Rattle.owl_tree.specs.Order.{kids_cmp, tag_cmp, tree_cmp}
use Rattle.owl_tree.specs.OrderLaws.{only_equal_trees_tie, then_nothing, trees_total}
use Rattle.owl_tree.proofs.TreeLaws.{kids_of_list_of}
use Rattle.owl_tree.specs.Trees.{Tree, kids_in, kids_of, leaf, node}
use Rattle.owl_arena.specs.Differences.{differ_or, first_difference}
use Rattle.owl_arena.specs.Roots.{roots_cmp}
use Rattle.owl_arena.specs.Held.{AreHeld, tree_at, trees_at}
use Rattle.owl_arena.specs.Shared.{HaveOneNumber}

-- the trees of the numbers that differ decide, and else the lengths
abbrev pub by_difference : List Tree → Option (ℕ × ℕ) → ℕ → ℕ → Ordering
by_difference ts None n m = nat_cmp n m
by_difference ts (Some p) n m = tree_cmp (tree_at ts p.0) (tree_at ts p.1)

-- what does not tie decides
decided : (o p : Ordering) → (o ≡ Equal → ⊥) → ordering_then o p ≡ o
decided Less p h = refl
decided Equal p h = absurd (h refl)
decided Greater p h = refl

one_more : (n m : ℕ) → nat_cmp (suc n) (suc m) ≡ nat_cmp n m
one_more n m = grind (arith, nat_tests)

none_first : (n : ℕ) → nat_cmp 0 (suc n) ≡ Less
none_first n = grind (arith, nat_tests)

none_last : (n : ℕ) → nat_cmp (suc n) 0 ≡ Greater
none_last n = grind (arith, nat_tests)

-- a tree ties with itself
then_rest : (t u : Tree) (o : Ordering) → t ≡ u → ordering_then (tree_cmp t u) o ≡ o
then_rest t u o e = rw (← e, tied_itself trees_total t) refl

less_decides : (o p : Ordering) → ordering_then o Less ≡ ordering_then (ordering_then o Less) p
less_decides Less p = refl
less_decides Equal p = refl
less_decides Greater p = refl

greater_decides : (o p : Ordering) → ordering_then o Greater ≡ ordering_then (ordering_then o Greater) p
greater_decides Less p = refl
greater_decides Equal p = refl
greater_decides Greater p = refl

module _ (ts : List Tree) (one : HaveOneNumber ts) where
  by_first : (same : Bool) (k l n m : ℕ) (rest : Ordering) (later : Option (ℕ × ℕ)) → k < length ts → l < length ts → nat_eq k l ≡ same → rest ≡ by_difference ts later n m
      → ordering_then (tree_cmp (tree_at ts k) (tree_at ts l)) rest ≡ by_difference ts (differ_or same k l later) (suc n) (suc m)
  by_first true k l n m rest None h j e f = then_rest (tree_at ts k) (tree_at ts l) rest (ap (tree_at ts) (eqb-true k l e)) ∙ f ∙ sym (one_more n m)
  by_first true k l n m rest (Some p) h j e f = then_rest (tree_at ts k) (tree_at ts l) rest (ap (tree_at ts) (eqb-true k l e)) ∙ f
  by_first false k l n m rest later h j e f = decided _ rest (λ t. eqb-false k l e (one k l h j (only_equal_trees_tie _ _ t)))

  pub kids_by_difference : (ks ls : List ℕ) → AreHeld ts ks → AreHeld ts ls → kids_cmp (kids_of (trees_at ts ks)) (kids_of (trees_at ts ls)) ≡ by_difference ts (first_difference ks ls) (length ks) (length ls)
  kids_by_difference [] [] h j = refl
  kids_by_difference [] (l ∷ ls) h j = sym (none_first (length ls))
  kids_by_difference (k ∷ ks) [] h j = sym (none_last (length ks))
  kids_by_difference (k ∷ ks) (l ∷ ls) h j = by_first (nat_eq k l) k l (length ks) (length ls) _ (first_difference ks ls) h.0 j.0 refl (kids_by_difference ks ls h.1 j.1)

pub roots_then : (t u : Tree) → tree_cmp t u ≡ ordering_then (roots_cmp t u) (kids_cmp (kids_of (kids_in t)) (kids_of (kids_in u)))
roots_then (leaf t a) (leaf u b) = sym (then_nothing (roots_cmp (leaf t a) (leaf u b)))
roots_then (leaf t a) (node u ls) = less_decides (tag_cmp t u) _
roots_then (node t ks) (leaf u b) = greater_decides (tag_cmp t u) _
roots_then (node t ks) (node u ls) = simp (then_nothing, kids_of_list_of)

pub itself_ties : (ts : List Tree) (a b : ℕ) → a ≡ b → Equal ≡ tree_cmp (tree_at ts a) (tree_at ts b)
itself_ties ts a b e = sym (tied_itself trees_total (tree_at ts b)) ∙ ap (λ (k : ℕ). tree_cmp (tree_at ts k) (tree_at ts b)) (sym e)

held_below : (ts : List Tree) (a : ℕ) (ks : List ℕ) → a < length ts → AllByRecursion (λ k. k < a) ks → AreHeld ts ks
held_below ts a [] h j = tt
held_below ts a (k ∷ ks) h j = (omega (arith, j.0), held_below ts a ks h j.1)

tie_told : (o : Ordering) → false ≡ not (ordering_index o == 1) → o ≡ Equal
tie_told Less e = cc
tie_told Equal e = refl
tie_told Greater e = cc

-- where tags and atoms tie, the kids decide
pub kids_decide : (ts : List Tree) (one : HaveOneNumber ts) (a b : ℕ) (t u : Tree) (ks ls : List ℕ) (roots : Ordering) (found : Option (ℕ × ℕ)) (o : Ordering) → a < length ts → b < length ts → false ≡ not (ordering_index roots == 1) → roots ≡ roots_cmp t u
    → trees_at ts ks ≡ kids_in t → trees_at ts ls ≡ kids_in u → AllByRecursion (λ k. k < a) ks → AllByRecursion (λ l. l < b) ls → first_difference ks ls ≡ found → o ≡ by_difference ts found (length ks) (length ls)
    → o ≡ tree_cmp t u
kids_decide ts one a b t u ks ls roots found o h j tie roots_are kids_is others_is below others_below found_is e =
    let all = kids_by_difference ts one ks ls (held_below ts a ks h below) (held_below ts b ls j others_below) in
    e
    ∙ ap (λ (d : Option (ℕ × ℕ)). by_difference ts d (length ks) (length ls)) (sym found_is)
    ∙ sym all
    ∙ ap (λ (us : List Tree). kids_cmp (kids_of us) (kids_of (trees_at ts ls))) kids_is
    ∙ ap (λ (us : List Tree). kids_cmp (kids_of (kids_in t)) (kids_of us)) others_is
    ∙ ap (λ (p : Ordering). ordering_then p (kids_cmp (kids_of (kids_in t)) (kids_of (kids_in u)))) (sym (tie_told roots tie) ∙ roots_are)
    ∙ sym (roots_then t u)
