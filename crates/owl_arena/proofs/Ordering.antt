-- The order of numbers of trees.
use Rattle.std.proofs.Common.{◌≡◌, ◌<◌, ◌≤◌, ◌++◌, ℕ, zero, suc, Bool, true, false, List, [], ◌∷◌, Some, length, take, drop, refl, sym, ap, subst, arith}
use Rattle.std.specs.Prelude.{nat_eq, slice_get}
use Rattle.std.specs.declared.cmp.Ordering.{Ordering}
use Rattle.std.specs.declared.cmp.Ordering.TheVariants.{Less, Equal, Greater}
use Rattle.std.specs.Cmp.{IsTotalOrder}
use Rattle.std.specs.Cmp.Lexicographic.{options_total}
use Rattle.std.specs.FinMap.{nat_cmp-IsAntisymmetric}
use Rattle.std.specs.List.{dedup}
use Rattle.std.specs.List.Sorted.{IsPermutation}
use Rattle.std.specs.Option.{option_cmp}
use Rattle.std.specs.Ordering.{eq_by_cmp, is_eq, nat_cmp, ordering_then}
use Rattle.std.proofs.lemmas.Cmp.{nat_eq_equiv, nat_cmp_total, on_total, then_total, tied_itself}
use Rattle.owl_list.specs.Ascending.{ascending, HoldSame}
use Rattle.owl_list.proofs.ArrangedLaws.{sorted_once}
use Rattle.owl_list.proofs.AscendingLaws.{all_ascending, ascending_holds, map_ascending}
use Rattle.owl_tree.specs.Canonical.{arranged_from}
use Rattle.owl_tree.specs.Order.{tree_cmp}
use Rattle.owl_tree.specs.OrderLaws.{only_equal_trees_tie, then_second, trees_total}
use Rattle.owl_tree.specs.Trees.{Tree, no_kids, node}
use Rattle.owl_tree.specs.declared.tag.Tag.TheVariants as tag
use Rattle.std.proofs.lemmas.Option.{slice_get-get_or}
use Rattle.std.proofs.lemmas.Bool.{eqb-false, eqb-true}
use Rattle.owl_arena.specs.Held.{AreHeld, tree_at, trees_at}
use Rattle.owl_arena.specs.InOrder.{AreInOrder, in_order_from, numbers_cmp}
use Rattle.owl_arena.specs.Shared.{HaveOneNumber}

pub numbers_total : (ts : List Tree) → IsTotalOrder (numbers_cmp ts)
numbers_total ts = then_total (on_total (slice_get ts) (options_total trees_total)) nat_cmp_total

only_equal_numbers_tie : (ts : List Tree) (a b : ℕ) → numbers_cmp ts a b ≡ Equal → a ≡ b
only_equal_numbers_tie ts a b e = nat_cmp-IsAntisymmetric a b (then_second (option_cmp tree_cmp (slice_get ts a) (slice_get ts b)) (nat_cmp a b) e)

not_tied : (o : Ordering) → (o ≡ Equal → ⊥) → false ≡ is_eq o
not_tied Less h = refl
not_tied Equal h = absurd (h refl)
not_tied Greater h = refl

equal_by : (ts : List Tree) (a b : ℕ) (is : Bool) → nat_eq a b ≡ is → is ≡ eq_by_cmp (numbers_cmp ts) a b
equal_by ts a b true e =
    let tie : numbers_cmp ts a b ≡ Equal = subst (λ (k : ℕ). numbers_cmp ts a k ≡ Equal) (eqb-true a b e) (tied_itself (numbers_total ts) a) in
    sym (ap is_eq tie)
equal_by ts a b false e = not_tied (numbers_cmp ts a b) (λ t. eqb-false a b e (only_equal_numbers_tie ts a b t))

same_numbers : (ts : List Tree) (a b : ℕ) → nat_eq a b ≡ eq_by_cmp (numbers_cmp ts) a b
same_numbers ts a b = equal_by ts a b (nat_eq a b) refl

-- the front as it stands, and the others put in order
front_kept : (ts : List Tree) (n : ℕ) (ids : List ℕ) → n < length ids → take n ids ++ ascending (numbers_cmp ts) (drop n ids) ≡ in_order_from ts n ids
front_kept ts zero ids h = refl
front_kept ts (suc n) [] h = absurd (omega arith)
front_kept ts (suc n) (id ∷ ids) h = ap (λ (xs : List ℕ). id ∷ xs) (front_kept ts n ids (omega arith))

pub put_in_order : (ts : List Tree) (n : ℕ) (old moved new : List ℕ) → n < length old → take n moved ≡ take n old → IsPermutation (drop n old) (drop n moved) → AreInOrder ts (drop n moved) → new ≡ take n moved ++ dedup nat_eq (drop n moved)
    → new ≡ in_order_from ts n old
put_in_order ts n old moved new h front p s e =
    let once = sorted_once (numbers_cmp ts) nat_eq (numbers_total ts) nat_eq_equiv (same_numbers ts) (only_equal_numbers_tie ts) (drop n old) (drop n moved) p s.sorted in
    let kept = front_kept ts n old h in
    cc

-- where nothing is behind the front, nothing changes
pub none_behind : (ts : List Tree) (n : ℕ) (ids : List ℕ) → length ids ≤ n → ids ≡ in_order_from ts n ids
none_behind ts zero [] h = refl
none_behind ts zero (id ∷ ids) h = absurd (omega arith)
none_behind ts (suc n) [] h = refl
none_behind ts (suc n) (id ∷ ids) h = ap (λ (xs : List ℕ). id ∷ xs) (none_behind ts n ids (omega arith))

found_at : (ts : List Tree) (id : ℕ) → id < length ts → slice_get ts id ≡ Some (tree_at ts id)
found_at ts id h = slice_get-get_or ts id (node tag.Notes no_kids) h

decides : (o p : Ordering) → (o ≡ Equal → p ≡ Equal) → ordering_then o p ≡ o
decides Less p h = refl
decides Equal p h = h refl
decides Greater p h = refl

-- numbers of trees that are there stand in the order of the trees
by_tree : (ts : List Tree) → HaveOneNumber ts → (a b : ℕ) → a < length ts → b < length ts → numbers_cmp ts a b ≡ tree_cmp (tree_at ts a) (tree_at ts b)
by_tree ts one a b h j =
    let first = found_at ts a h in
    let second = found_at ts b j in
    rw (first, second) (decides (tree_cmp (tree_at ts a) (tree_at ts b)) (nat_cmp a b) (λ e. subst (λ (k : ℕ). nat_cmp a k ≡ Equal) (one a b h j (only_equal_trees_tie _ _ e)) (tied_itself nat_cmp_total a)))

pub trees_in_order : (ts : List Tree) (one : HaveOneNumber ts) (n : ℕ) (ids : List ℕ) → AreHeld ts ids → trees_at ts (in_order_from ts n ids) ≡ arranged_from n (trees_at ts ids)
trees_in_order ts one zero ids h = map_ascending (tree_at ts) (numbers_cmp ts) tree_cmp (λ id. id < length ts) (by_tree ts one) ids h
trees_in_order ts one (suc n) [] h = refl
trees_in_order ts one (suc n) (id ∷ ids) h = ap (λ (us : List Tree). tree_at ts id ∷ us) (trees_in_order ts one n ids h.1)

pub held_in_order : (ts : List Tree) (n : ℕ) (ids : List ℕ) → AreHeld ts ids → AreHeld ts (in_order_from ts n ids)
held_in_order ts zero ids h = all_ascending (λ id. id < length ts) (numbers_cmp ts) ids h
held_in_order ts (suc n) [] h = tt
held_in_order ts (suc n) (id ∷ ids) h = (h.0, held_in_order ts n ids h.1)

pub same_in_order : (ts : List Tree) (ids new : List ℕ) → new ≡ in_order_from ts 0 ids → HoldSame new ids
same_in_order ts ids new e = rw e (ascending_holds (numbers_cmp ts) (numbers_total ts) (only_equal_numbers_tie ts) ids)
