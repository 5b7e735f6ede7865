-- Axioms that are sorted by what they are without their annotations.
use Rattle.std.proofs.Common.{◌≡◌, ◌≤◌, ◌<◌, ℕ, suc, Bool, true, false, cond, List, [], ◌∷◌, length, get_or, refl, sym, ap, ◌∙◌, subst, arith}
use Rattle.std.specs.Prelude.{◌&&◌, Contains, map, not, slice_get}
use Rattle.std.specs.declared.cmp.Ordering.{Ordering}
use Rattle.std.specs.declared.cmp.Ordering.TheVariants.{Less, Equal, Greater}
use Rattle.std.specs.Cmp.{IsTotalOrder}
use Rattle.std.specs.Cmp.Lexicographic.{options_total}
use Rattle.std.specs.List.{AllByRecursion, filter}
use Rattle.std.specs.List.Sorted.{ties}
use Rattle.std.specs.Ordering.{eq_by_cmp, is_eq, is_lt, ordering_reverse}
use Rattle.std.proofs.lemmas.Cmp.{on_total}
use Rattle.std.proofs.lemmas.List.Elements.{recursion_from_All}
use Rattle.std.proofs.lemmas.List.Sorted.{Contains-permutation, IsPermutation-sym, ranks_by, sorted_far}
use Rattle.std.proofs.lemmas.Option.{slice_get-get_or}
use Rattle.owl_arena.specs.Held.{AreHeld, tree_at, trees_at}
use Rattle.owl_list.proofs.AscendingLaws.{all_in, all_map, all_same, ascending_holds, ascending_same, from_map, same_map}
use Rattle.owl_tree.specs.Order.{tree_cmp}
use Rattle.owl_tree.specs.OrderLaws.{only_equal_trees_tie, trees_total}
use Rattle.owl_tree.specs.Trees.{Tree, no_kids, node}
use Rattle.owl_tree.specs.declared.tag.Tag.TheVariants as tag
use Rattle.rdf_mapping.specs.Graphs.{axiom_notes, bare, bare_axioms, group_of, groups_of, sets_of}
use Rattle.rdf_forward.specs.BareOrder.{AreOrdered, AreSorted, bare_cmp, numbers_cmp}
use Rattle.rdf_forward.proofs.Grouping.{group_with, map_alike}

pub bares_total : IsTotalOrder bare_cmp
bares_total = on_total bare trees_total

pub numbers_total : (trees : List Tree) → IsTotalOrder (numbers_cmp trees)
numbers_total trees = on_total (slice_get trees) (options_total bares_total)

by_bare : (trees : List Tree) (a b : ℕ) → a < length trees → b < length trees → numbers_cmp trees a b ≡ bare_cmp (tree_at trees a) (tree_at trees b)
by_bare trees a b h k =
    let first = slice_get-get_or trees a (node tag.Notes no_kids) h in
    let second = slice_get-get_or trees b (node tag.Notes no_kids) k in
    rw (first, second) refl

-- they are in order

pub sorted_held : (trees : List Tree) (old new : List ℕ) → AreHeld trees old → AreSorted trees old new → AreHeld trees new
sorted_held trees old new held s = all_same (λ id. id < length trees) old new (λ id. (Contains-permutation old new id s.moved, Contains-permutation new old id (IsPermutation-sym old new s.moved))) held

ordered_from : (trees : List Tree) (ids : List ℕ) → AreHeld trees ids → ((i j : ℕ) (d : ℕ) → i ≤ j → j < length ids → is_lt (numbers_cmp trees (get_or ids j d) (get_or ids i d)) ≡ false) → AreOrdered (trees_at trees ids)
ordered_from trees [] held up = tt
ordered_from trees (id ∷ ids) held up =
    let each : AllByRecursion (λ other. is_lt (numbers_cmp trees other id) ≡ false) ids = recursion_from_All (λ other. is_lt (numbers_cmp trees other id) ≡ false) ids (λ k d l. up 0 (suc k) d (omega arith) (omega arith)) in
    (all_map (tree_at trees) (λ t. is_lt (bare_cmp t (tree_at trees id)) ≡ false) ids (all_told ids held.1 each), ordered_from trees ids held.1 (λ i j d l m. up (suc i) (suc j) d (omega arith) (omega arith)))
  where
    all_told : (others : List ℕ) → AreHeld trees others → AllByRecursion (λ other. is_lt (numbers_cmp trees other id) ≡ false) others → AllByRecursion (λ other. is_lt (bare_cmp (tree_at trees other) (tree_at trees id)) ≡ false) others
    all_told [] h k = tt
    all_told (other ∷ others) h k = (ap is_lt (sym (by_bare trees other id h.0 held.0)) ∙ k.0, all_told others h.1 k.1)

pub sorted_ordered : (trees : List Tree) (old new : List ℕ) → AreHeld trees old → AreSorted trees old new → AreOrdered (trees_at trees new)
sorted_ordered trees old new held s = ordered_from trees new (sorted_held trees old new held s) (sorted_far (λ a b. is_lt (numbers_cmp trees a b)) (ranks_by (numbers_total trees) (λ a. a)) new s.sorted)

-- and their groups are the same

filter_alike : {X : Type 0} (p q : X → Bool) (xs : List X) → AllByRecursion (λ x. p x ≡ q x) xs → filter p xs ≡ filter q xs
filter_alike p q [] h = refl
filter_alike p q (x ∷ xs) h = let first = h.0 in let rest = filter_alike p q xs h.1 in ap (λ b. cond b (x ∷ filter p xs) (filter p xs)) first ∙ ap (λ ys. cond (q x) (x ∷ ys) ys) rest

map_cond : {X Y : Type 0} (f : X → Y) (b : Bool) (x : X) (xs : List X) → cond b (f x ∷ map f xs) (map f xs) ≡ map f (cond b (x ∷ xs) xs)
map_cond f true x xs = refl
map_cond f false x xs = refl

filter_mapped : {X Y : Type 0} (f : X → Y) (p : Y → Bool) (xs : List X) → filter p (map f xs) ≡ map f (filter (λ x. p (f x)) xs)
filter_mapped f p [] = refl
filter_mapped f p (x ∷ xs) = ap (λ ys. cond (p (f x)) (f x ∷ ys) ys) (filter_mapped f p xs) ∙ map_cond f (p (f x)) x (filter (λ y. p (f y)) xs)

neither : (o p : Ordering) → o ≡ ordering_reverse p → (not (is_lt o) && not (is_lt p)) ≡ is_eq p
neither o Less e = rw e refl
neither o Equal e = rw e refl
neither o Greater e = rw e refl

ties_bare : (trees : List Tree) (a b : ℕ) → a < length trees → b < length trees → ties (λ c d. is_lt (numbers_cmp trees c d)) a b ≡ eq_by_cmp tree_cmp (bare (tree_at trees b)) (bare (tree_at trees a))
ties_bare trees a b h k = neither (numbers_cmp trees a b) (numbers_cmp trees b a) ((numbers_total trees).antisymm a b) ∙ ap is_eq (by_bare trees b a k h)

sets_among : (trees : List Tree) (a : ℕ) (ids : List ℕ) → a < length trees → AreHeld trees ids → sets_of (bare (tree_at trees a)) (trees_at trees ids) ≡ map axiom_notes (map (tree_at trees) (filter (ties (λ c d. is_lt (numbers_cmp trees c d)) a) ids))
sets_among trees a ids h held =
    let test = λ (t : Tree). eq_by_cmp tree_cmp (bare t) (bare (tree_at trees a)) in
    let same = filter_alike (ties (λ c d. is_lt (numbers_cmp trees c d)) a) (λ id. test (tree_at trees id)) ids (all_ties ids held) in
    ap (map axiom_notes) (filter_mapped (tree_at trees) test ids ∙ ap (map (tree_at trees)) (sym same))
  where
    all_ties : (others : List ℕ) → AreHeld trees others → AllByRecursion (λ b. ties (λ c d. is_lt (numbers_cmp trees c d)) a b ≡ eq_by_cmp tree_cmp (bare (tree_at trees b)) (bare (tree_at trees a))) others
    all_ties [] k = tt
    all_ties (b ∷ others) k = (ties_bare trees a b h k.0, all_ties others k.1)

module _ (trees : List Tree) (old new : List ℕ) (held : AreHeld trees old) (s : AreSorted trees old new) where
  bares_same : bare_axioms (trees_at trees new) ≡ bare_axioms (trees_at trees old)
  bares_same =
      ascending_same tree_cmp trees_total only_equal_trees_tie (map bare (trees_at trees new)) (map bare (trees_at trees old))
      (same_map bare (trees_at trees new) (trees_at trees old) (same_map (tree_at trees) new old (λ id. (Contains-permutation new old id (IsPermutation-sym old new s.moved), Contains-permutation old new id s.moved))))

  sets_same : (b : Tree) → Contains (bare_axioms (trees_at trees old)) b → sets_of b (trees_at trees new) ≡ sets_of b (trees_at trees old)
  sets_same b m =
      let v = from_map bare (trees_at trees old) b ((ascending_holds tree_cmp trees_total only_equal_trees_tie (map bare (trees_at trees old)) b).0 m) in
      let u = from_map (tree_at trees) old v.element v.inside in
      let is : bare (tree_at trees u.element) ≡ b = ap bare u.value ∙ v.value in
      let inside = all_in (λ id. id < length trees) old u.element held u.inside in
      subst (λ (c : Tree). sets_of c (trees_at trees new) ≡ sets_of c (trees_at trees old)) is
      (sets_among trees u.element new inside (sorted_held trees old new held s)
      ∙ ap (λ (ids : List ℕ). map axiom_notes (map (tree_at trees) ids)) (s.stable u.element)
      ∙ sym (sets_among trees u.element old inside held))

  pub sorted_groups : groups_of (trees_at trees new) ≡ groups_of (trees_at trees old)
  sorted_groups =
      ap (map (group_of (trees_at trees new))) bares_same
      ∙ map_alike (group_of (trees_at trees new)) (group_of (trees_at trees old)) (bare_axioms (trees_at trees old)) (λ b m. ap (group_with b) (sets_same b m))
