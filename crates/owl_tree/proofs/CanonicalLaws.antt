-- The laws of canonical forms.
use Rattle.std.proofs.Common.{inl, inr, refl, sym, ap, ◌∙◌, subst, arith}
use Rattle.std.specs.Prelude.{◌≡◌, ◌≤◌, ◌+◌, ◌↔◌, ℕ, zero, suc, List, [], ◌∷◌, map, Contains, Option, None, Some}
use Rattle.std.specs.declared.cmp.Ordering.{Ordering}
use Rattle.std.specs.declared.cmp.Ordering.TheVariants.{Less, Equal, Greater}
use Rattle.std.specs.List.{AllByRecursion}
use Rattle.owl_list.specs.Ascending.{by_order, put, ascending, HoldSame}
use Rattle.owl_list.proofs.AscendingLaws.{in_head, in_tail, in_none, in_cases, all_same, hold_same, same_sym, same_behind, ascending_ascends, ascending_holds, ascending_again}
use Rattle.owl_tree.specs.declared.tag.Tag.{Tag}
use Rattle.owl_tree.specs.Canonical.{canonical, canonicals, arranged, arranged_from, AscendsFrom, SetAscends, SetsAscend, EachSetsAscend}
use Rattle.owl_tree.specs.Equivalence.{IsEquivalent}
use Rattle.owl_tree.proofs.EquivalenceLaws.{equivalent_is_equal_form}
use Rattle.owl_tree.specs.Order.{tree_cmp}
use Rattle.owl_tree.specs.OrderLaws.{trees_total, only_equal_trees_tie}
use Rattle.owl_tree.specs.Rows.{row_of, set_start}
use Rattle.owl_tree.proofs.TreeLaws.{list_of_kids_of, kids_of_list_of}
use Rattle.owl_tree.specs.Trees.{Tree, Kids, leaf, node, no_kids, kid, list_of, kids_of, tag_of, depth, most_depth, weight, sum_weight}

pub canonical_tag : (t : Tree) → tag_of (canonical t) ≡ tag_of t
canonical_tag (leaf t a) = refl
canonical_tag (node t ks) = refl

each_ascends : (ts : List Tree) → AllByRecursion SetsAscend ts → EachSetsAscend (kids_of ts)
each_ascends [] h = tt
each_ascends (t ∷ ts) h = (h.0, each_ascends ts h.1)

-- the depth of kids is that of the deepest of them, in whatever order and however often they stand
kid_depth : (ts : List Tree) (t : Tree) → Contains ts t → depth t ≤ most_depth (kids_of ts)
kid_depth [] t m = absurd (in_none t m)
kid_depth (u ∷ us) t m =
    elim (in_cases u us t m) [
      | inl e ↦ let same = ap depth e in omega arith
      | inr n ↦ let rest = kid_depth us t n in omega arith
    ]

depth_bound : (ts : List Tree) (most : ℕ) → ((t : Tree) → Contains ts t → depth t ≤ most) → most_depth (kids_of ts) ≤ most
depth_bound [] most h = omega arith
depth_bound (t ∷ ts) most h =
    let first = h t (in_head t ts) in
    let rest = depth_bound ts most (λ u m. h u (in_tail t ts u m)) in
    omega arith

same_depth : (ts us : List Tree) → HoldSame ts us → most_depth (kids_of ts) ≡ most_depth (kids_of us)
same_depth ts us h =
    let there = depth_bound ts (most_depth (kids_of us)) (λ t m. kid_depth us t ((h t).0 m)) in
    let back = depth_bound us (most_depth (kids_of ts)) (λ t m. kid_depth ts t ((h t).1 m)) in
    omega arith

-- an element that is put into a list adds at most its weight
put_weight_by : (o : Ordering) (t u : Tree) (us rest : List Tree) → sum_weight (kids_of rest) ≤ weight t + sum_weight (kids_of us) → sum_weight (kids_of (by_order o (t ∷ u ∷ us) (u ∷ us) (u ∷ rest))) ≤ weight t + sum_weight (kids_of (u ∷ us))
put_weight_by Less t u us rest h = omega arith
put_weight_by Equal t u us rest h = omega arith
put_weight_by Greater t u us rest h = omega arith

put_weight : (t : Tree) (us : List Tree) → sum_weight (kids_of (put tree_cmp t us)) ≤ weight t + sum_weight (kids_of us)
put_weight t [] = omega arith
put_weight t (u ∷ us) = put_weight_by (tree_cmp t u) t u us (put tree_cmp t us) (put_weight t us)

ascending_weight : (ts : List Tree) → sum_weight (kids_of (ascending tree_cmp ts)) ≤ sum_weight (kids_of ts)
ascending_weight [] = omega arith
ascending_weight (t ∷ ts) = let step = put_weight t (ascending tree_cmp ts) in let rest = ascending_weight ts in omega arith

arranged_from_weight : (n : ℕ) (ts : List Tree) → sum_weight (kids_of (arranged_from n ts)) ≤ sum_weight (kids_of ts)
arranged_from_weight zero ts = ascending_weight ts
arranged_from_weight (suc n) [] = omega arith
arranged_from_weight (suc n) (t ∷ ts) = let rest = arranged_from_weight n ts in omega arith

arranged_weight : (start : Option ℕ) (ts : List Tree) → sum_weight (kids_of (arranged start ts)) ≤ sum_weight (kids_of ts)
arranged_weight None ts = omega arith
arranged_weight (Some n) ts = arranged_from_weight n ts

mutual
  pub canonical_weight : (t : Tree) → weight (canonical t) ≤ weight t
  canonical_weight (leaf t a) = omega arith
  canonical_weight (node t ks) =
      let fewer = arranged_weight (set_start (row_of t)) (canonicals ks) in
      let lighter = canonicals_weight ks in
      omega arith

  canonicals_weight : (ks : Kids) → sum_weight (kids_of (canonicals ks)) ≤ sum_weight ks
  canonicals_weight no_kids = omega arith
  canonicals_weight (kid t ks) = let first = canonical_weight t in let rest = canonicals_weight ks in omega arith

-- arranged trees are the same trees
arranged_from_holds : (n : ℕ) (ts : List Tree) → HoldSame (arranged_from n ts) ts
arranged_from_holds zero ts = ascending_holds tree_cmp trees_total only_equal_trees_tie ts
arranged_from_holds (suc n) [] = hold_same []
arranged_from_holds (suc n) (t ∷ ts) = same_behind t (arranged_from n ts) ts (arranged_from_holds n ts)

pub arranged_holds : (start : Option ℕ) (ts : List Tree) → HoldSame (arranged start ts) ts
arranged_holds None ts = hold_same ts
arranged_holds (Some n) ts = arranged_from_holds n ts

-- their set ascends
arranged_from_ascends : (n : ℕ) (ts : List Tree) → AscendsFrom n (arranged_from n ts)
arranged_from_ascends zero ts = ascending_ascends tree_cmp trees_total ts
arranged_from_ascends (suc n) [] = tt
arranged_from_ascends (suc n) (t ∷ ts) = arranged_from_ascends n ts

arranged_ascends : (start : Option ℕ) (ts : List Tree) → SetAscends start (arranged start ts)
arranged_ascends None ts = tt
arranged_ascends (Some n) ts = arranged_from_ascends n ts

-- and those whose set ascends stay as they are
arranged_from_again : (n : ℕ) (ts : List Tree) → AscendsFrom n ts → arranged_from n ts ≡ ts
arranged_from_again zero ts h = ascending_again tree_cmp trees_total only_equal_trees_tie ts h
arranged_from_again (suc n) [] h = refl
arranged_from_again (suc n) (t ∷ ts) h = ap (λ (us : List Tree). t ∷ us) (arranged_from_again n ts h)

arranged_again : (start : Option ℕ) (ts : List Tree) → SetAscends start ts → arranged start ts ≡ ts
arranged_again None ts h = refl
arranged_again (Some n) ts h = arranged_from_again n ts h

mutual
  -- each set of a canonical form ascends
  pub canonical_ascends : (t : Tree) → SetsAscend (canonical t)
  canonical_ascends (leaf t a) = tt
  canonical_ascends (node t ks) =
      let start = set_start (row_of t) in
      let kids = arranged start (canonicals ks) in (
        subst (λ (ts : List Tree). SetAscends start ts) (sym (list_of_kids_of kids)) (arranged_ascends start (canonicals ks)),
        each_ascends kids (all_same SetsAscend (canonicals ks) kids (same_sym kids (canonicals ks) (arranged_holds start (canonicals ks))) (canonicals_ascend ks)),
      )

  canonicals_ascend : (ks : Kids) → AllByRecursion SetsAscend (canonicals ks)
  canonicals_ascend no_kids = tt
  canonicals_ascend (kid t ks) = (canonical_ascends t, canonicals_ascend ks)

mutual
  -- a tree whose sets ascend is its canonical form
  pub ascends_canonical : (t : Tree) → SetsAscend t → canonical t ≡ t
  ascends_canonical (leaf t a) h = refl
  ascends_canonical (node t ks) h =
      let e = ascend_canonicals ks h.1 in
      let f = arranged_again (set_start (row_of t)) (list_of ks) h.0 in
      let g = kids_of_list_of ks in
      cc

  ascend_canonicals : (ks : Kids) → EachSetsAscend ks → canonicals ks ≡ list_of ks
  ascend_canonicals no_kids h = refl
  ascend_canonicals (kid t ks) h = let e = ascends_canonical t h.0 in let f = ascend_canonicals ks h.1 in cc

pub ascends_is_canonical : (t : Tree) → SetsAscend t ↔ (canonical t ≡ t)
ascends_is_canonical t = (ascends_canonical t, λ e. subst SetsAscend e (canonical_ascends t))

pub canonical_again : (t : Tree) → canonical (canonical t) ≡ canonical t
canonical_again t = ascends_canonical (canonical t) (canonical_ascends t)

pub canonical_equivalent : (t : Tree) → IsEquivalent t (canonical t)
canonical_equivalent t = (equivalent_is_equal_form t (canonical t)).1 (sym (canonical_again t))

-- of the equivalent trees it is the only one whose sets ascend
pub only_canonical : (t u : Tree) → IsEquivalent t u → SetsAscend u → u ≡ canonical t
only_canonical t u h a = sym (ascends_canonical u a) ∙ sym ((equivalent_is_equal_form t u).0 h)

pub canonicals_kids_of : (ts : List Tree) → canonicals (kids_of ts) ≡ map canonical ts
canonicals_kids_of [] = refl
canonicals_kids_of (t ∷ ts) = ap (λ (us : List Tree). canonical t ∷ us) (canonicals_kids_of ts)

pub forms_again : (ts : List Tree) → map canonical (map canonical ts) ≡ map canonical ts
forms_again [] = refl
forms_again (t ∷ ts) = let e = canonical_again t in let f = forms_again ts in cc

-- a node has the same form with the forms of its kids
pub canonical_node : (t : Tag) (ts : List Tree) → canonical (node t (kids_of (map canonical ts))) ≡ canonical (node t (kids_of ts))
canonical_node t ts =
    ap (λ (us : List Tree). node t (kids_of (arranged (set_start (row_of t)) us))) (canonicals_kids_of (map canonical ts) ∙ forms_again ts ∙ sym (canonicals_kids_of ts))

pub node_of_forms : (t : Tag) (ts : List Tree) → map canonical ts ≡ ts → canonical (node t (kids_of ts)) ≡ node t (kids_of (arranged (set_start (row_of t)) ts))
node_of_forms t ts e = ap (λ (us : List Tree). node t (kids_of (arranged (set_start (row_of t)) us))) (canonicals_kids_of ts ∙ e)

pub equivalent_tag : (a b : Tree) → IsEquivalent a b → tag_of a ≡ tag_of b
equivalent_tag a b h = sym (canonical_tag a) ∙ ap tag_of ((equivalent_is_equal_form a b).0 h) ∙ canonical_tag b

mutual
  pub canonical_depth : (t : Tree) → depth (canonical t) ≡ depth t
  canonical_depth (leaf t a) = refl
  canonical_depth (node t ks) =
      let start = set_start (row_of t) in
      ap (λ (n : ℕ). n + 1) (same_depth (arranged start (canonicals ks)) (canonicals ks) (arranged_holds start (canonicals ks)) ∙ canonicals_depth ks)

  canonicals_depth : (ks : Kids) → most_depth (kids_of (canonicals ks)) ≡ most_depth ks
  canonicals_depth no_kids = refl
  canonicals_depth (kid t ks) = let e = canonical_depth t in let f = canonicals_depth ks in cc

pub equivalent_depth : (a b : Tree) → IsEquivalent a b → depth a ≡ depth b
equivalent_depth a b h = sym (canonical_depth a) ∙ ap depth ((equivalent_is_equal_form a b).0 h) ∙ canonical_depth b
