-- A tree has a shape of the Structural Specification exactly if its canonical form has.
use Rattle.std.proofs.Common.{inl, inr, refl, sym, ap, ◌∙◌, subst, true, arith}
use Rattle.std.specs.Prelude.{◌≡◌, ◌⊎◌, ◌↔◌, ℕ, suc, Bool, ◌&&◌, nat_le, min, List, [], ◌∷◌, length, drop, map, Contains, Option, Some}
use Rattle.std.proofs.lemmas.Bool.{le-leb}
use Rattle.std.specs.Cmp.{both_ways, first_so, second_so}
use Rattle.std.specs.Cmp.Derive.{both_true}
use Rattle.std.specs.List.{AllByRecursion, list_all}
use Rattle.owl_list.specs.Ascending.{ascending, HoldSame}
use Rattle.owl_list.proofs.AscendingLaws.{in_head, in_none, all_same, hold_same, same_sym, same_trans, same_from_equal, in_map, from_map, same_map, ascending_holds}
use Rattle.owl_tree.specs.declared.tag.Tag.{Tag}
use Rattle.owl_tree.specs.declared.tag.Tag.TheVariants as tag
use Rattle.owl_tree.specs.declared.row.Sort.{Sort}
use Rattle.owl_tree.specs.declared.row.Rest.TheVariants.{Nothing, Optional, AtLeast, SomeThen, Set}
use Rattle.owl_tree.specs.Canonical.{canonical, canonicals, arranged, arranged_from}
use Rattle.owl_tree.proofs.CanonicalLaws.{canonical_tag, canonical_equivalent, arranged_holds}
use Rattle.owl_tree.specs.Equivalence.{IsEquivalent}
use Rattle.owl_tree.proofs.EquivalenceLaws.{canonicals_map, equivalent_is_equal_form, equivalent_sym, equivalent_trans}
use Rattle.owl_tree.specs.Order.{tree_cmp}
use Rattle.owl_tree.specs.OrderLaws.{trees_total, only_equal_trees_tie}
use Rattle.owl_tree.specs.Rows.{Row, Leaf, Node, row_of, set_start, admits, fits, fits_front, fits_rest}
use Rattle.owl_tree.specs.Shape.{AreAtMostTwo, HasKeyProperty, FitsRow, IsShaped, AreShaped}
use Rattle.owl_tree.proofs.TreeLaws.{list_of_kids_of}
use Rattle.owl_tree.specs.Trees.{Tree, Kids, leaf, node, no_kids, kid, list_of, kids_of, tag_of, kids_in}

-- Lists that hold the same pass the same tests, and none or both are empty.
all_true : {X : Type 0} (test : X → Bool) (xs : List X) → list_all test xs ≡ true → AllByRecursion (λ x. test x ≡ true) xs
all_true test [] e = tt
all_true test (x ∷ xs) e = (first_so (test x) (list_all test xs) e, all_true test xs (second_so (test x) (list_all test xs) e))

true_of_all : {X : Type 0} (test : X → Bool) (xs : List X) → AllByRecursion (λ x. test x ≡ true) xs → list_all test xs ≡ true
true_of_all test [] h = refl
true_of_all test (x ∷ xs) h = both_true h.0 (true_of_all test xs h.1)

same_tests : {X : Type 0} (test : X → Bool) (xs ys : List X) → HoldSame xs ys → list_all test xs ≡ list_all test ys
same_tests test xs ys h =
    both_ways (list_all test xs) (list_all test ys)
    (λ e. true_of_all test ys (all_same (λ x. test x ≡ true) xs ys h (all_true test xs e)))
    (λ e. true_of_all test xs (all_same (λ x. test x ≡ true) ys xs (same_sym xs ys h) (all_true test ys e)))

one_at_least : (least n : ℕ) → nat_le (min least 1) (suc n) ≡ true
one_at_least least n = le-leb (min least 1) (suc n) (omega arith)

same_least : {X : Type 0} (least : ℕ) (xs ys : List X) → HoldSame xs ys → nat_le (min least 1) (length xs) ≡ nat_le (min least 1) (length ys)
same_least least [] [] h = refl
same_least least [] (y ∷ ys) h = absurd (in_none y ((h y).1 (in_head y ys)))
same_least least (x ∷ xs) [] h = absurd (in_none x ((h x).0 (in_head x xs)))
same_least least (x ∷ xs) (y ∷ ys) h = one_at_least least (length xs) ∙ sym (one_at_least least (length ys))

-- the tags of a set fit, in whatever order and however often its members are written
set_fits : (sort : Sort) (least : ℕ) (ts us : List Tag) → HoldSame ts us → fits_rest (Set sort least) ts ≡ fits_rest (Set sort least) us
set_fits sort least ts us h = let e = same_least least ts us h in let f = same_tests (admits sort) ts us h in cc

-- behind a front, the tags of arranged trees fit where those of the trees do
front_fits : (front : List Sort) (sort : Sort) (least : ℕ) (ts : List Tree) → fits_front front (Set sort least) (map tag_of (arranged_from (length front) ts)) ≡ fits_front front (Set sort least) (map tag_of ts)
front_fits [] sort least ts =
    set_fits sort least (map tag_of (ascending tree_cmp ts)) (map tag_of ts) (same_map tag_of (ascending tree_cmp ts) ts (ascending_holds tree_cmp trees_total only_equal_trees_tie ts))
front_fits (first ∷ front) sort least [] = refl
front_fits (first ∷ front) sort least (t ∷ ts) = ap (λ (b : Bool). admits first (tag_of t) && b) (front_fits front sort least ts)

arranged_fits : (row : Row) (ts : List Tree) → fits row (map tag_of (arranged (set_start row) ts)) ≡ fits row (map tag_of ts)
arranged_fits (Leaf sort) ts = refl
arranged_fits (Node front Nothing) ts = refl
arranged_fits (Node front (Optional sort)) ts = refl
arranged_fits (Node front (AtLeast sort least)) ts = refl
arranged_fits (Node front (SomeThen sort last)) ts = refl
arranged_fits (Node front (Set sort least)) ts = front_fits front sort least ts

canonical_tags : (ts : List Tree) → map tag_of (map canonical ts) ≡ map tag_of ts
canonical_tags [] = refl
canonical_tags (t ∷ ts) = let e = canonical_tag t in let f = canonical_tags ts in cc

-- at most two of the trees, as their canonical forms
to_form : (t one : Tree) → IsEquivalent t one → IsEquivalent (canonical t) one
to_form t one h = equivalent_trans (canonical t) t one (equivalent_sym t (canonical t) (canonical_equivalent t)) h

from_form : (t one : Tree) → IsEquivalent (canonical t) one → IsEquivalent t one
from_form t one h = equivalent_trans t (canonical t) one (canonical_equivalent t) h

each_to_form : (one other : Tree) (ts : List Tree) → AllByRecursion (λ t. IsEquivalent t one ⊎ IsEquivalent t other) ts → AllByRecursion (λ t. IsEquivalent t one ⊎ IsEquivalent t other) (map canonical ts)
each_to_form one other [] h = tt
each_to_form one other (t ∷ ts) h = (elim h.0 [ inl e ↦ inl (to_form t one e) | inr e ↦ inr (to_form t other e) ], each_to_form one other ts h.1)

each_from_form : (one other : Tree) (ts : List Tree) → AllByRecursion (λ t. IsEquivalent t one ⊎ IsEquivalent t other) (map canonical ts) → AllByRecursion (λ t. IsEquivalent t one ⊎ IsEquivalent t other) ts
each_from_form one other [] h = tt
each_from_form one other (t ∷ ts) h = (elim h.0 [ inl e ↦ inl (from_form t one e) | inr e ↦ inr (from_form t other e) ], each_from_form one other ts h.1)

two_same : (ts us : List Tree) → HoldSame ts us → AreAtMostTwo ts → AreAtMostTwo us
two_same ts us h two = record { one = two.one; other = two.other; each = all_same (λ t. IsEquivalent t two.one ⊎ IsEquivalent t two.other) ts us h two.each }

-- the row of the inverse object properties has a set behind the annotations
inverses_start : set_start (row_of tag.InverseObjectProperties) ≡ Some 1
unfolding row_of
inverses_start = refl

arranged_behind : (ts : List Tree) → HoldSame (drop 1 (arranged (Some 1) ts)) (drop 1 ts)
arranged_behind [] = hold_same []
arranged_behind (t ∷ ts) = ascending_holds tree_cmp trees_total only_equal_trees_tie ts

arranged_forms : (t : Tag) (ks : Kids) → HoldSame (arranged (set_start (row_of t)) (canonicals ks)) (map canonical (list_of ks))
arranged_forms t ks =
    same_trans (arranged (set_start (row_of t)) (canonicals ks)) (canonicals ks) (map canonical (list_of ks))
    (arranged_holds (set_start (row_of t)) (canonicals ks))
    (same_from_equal (canonicals ks) (map canonical (list_of ks)) (canonicals_map ks))

-- the kids of a canonical form are the canonical forms of the kids
kids_hold : (t : Tree) → HoldSame (kids_in (canonical t)) (map canonical (kids_in t))
kids_hold (leaf t a) = hold_same []
kids_hold (node t ks) =
    let kids = arranged (set_start (row_of t)) (canonicals ks) in
    same_trans (list_of (kids_of kids)) kids (map canonical (list_of ks)) (same_from_equal (list_of (kids_of kids)) kids (list_of_kids_of kids)) (arranged_forms t ks)

-- a group of keys has a member exactly if its form has
canonical_has_key : (ts : List Tree) → HasKeyProperty ts → HasKeyProperty (map canonical ts)
canonical_has_key ts h = record {
  group = canonical h.group;
  inside = in_map canonical ts h.group h.inside;
  is_group = subst (λ (t : Tag). (t ≡ tag.ObjectKeys) ⊎ (t ≡ tag.DataKeys)) (sym (canonical_tag h.group)) h.is_group;
  property = canonical h.property;
  member = ((kids_hold h.group) (canonical h.property)).1 (in_map canonical (kids_in h.group) h.property h.member);
}

key_of_canonical : (ts : List Tree) → HasKeyProperty (map canonical ts) → HasKeyProperty ts
key_of_canonical ts h =
    let g = from_map canonical ts h.group h.inside in
    let inside = subst (λ (t : Tree). Contains (kids_in t) h.property) (sym g.value) h.member in
    let p = from_map canonical (kids_in g.element) h.property ((kids_hold g.element h.property).0 inside) in
    record {
      group = g.element;
      inside = g.inside;
      is_group = subst (λ (t : Tag). (t ≡ tag.ObjectKeys) ⊎ (t ≡ tag.DataKeys)) (sym (ap tag_of g.value) ∙ canonical_tag g.element) h.is_group;
      property = p.element;
      member = p.inside;
    }

key_same : (ts us : List Tree) → HoldSame ts us → HasKeyProperty ts → HasKeyProperty us
key_same ts us h k = record { group = k.group; inside = (h k.group).0 k.inside; is_group = k.is_group; property = k.property; member = k.member }

drop_map : (ts : List Tree) → drop 1 (map canonical ts) ≡ map canonical (drop 1 ts)
drop_map [] = refl
drop_map (t ∷ ts) = refl

each_shaped : (ts : List Tree) → AllByRecursion IsShaped ts → AreShaped (kids_of ts)
each_shaped [] h = tt
each_shaped (t ∷ ts) h = (h.0, each_shaped ts h.1)

shaped_each : (ts : List Tree) → AreShaped (kids_of ts) → AllByRecursion IsShaped ts
shaped_each [] h = tt
shaped_each (t ∷ ts) h = (h.0, shaped_each ts h.1)

row_fits : (t : Tag) (ks : Kids) → fits (row_of t) (map tag_of (arranged (set_start (row_of t)) (canonicals ks))) ≡ fits (row_of t) (map tag_of (list_of ks))
row_fits t ks =
    arranged_fits (row_of t) (canonicals ks)
    ∙ ap (λ (ts : List Tree). fits (row_of t) (map tag_of ts)) (canonicals_map ks)
    ∙ ap (fits (row_of t)) (canonical_tags (list_of ks))

inverse_forms : (t : Tag) (ks : Kids) → t ≡ tag.InverseObjectProperties → HoldSame (drop 1 (arranged (set_start (row_of t)) (canonicals ks))) (map canonical (drop 1 (list_of ks)))
inverse_forms t ks e =
    let start : set_start (row_of t) ≡ Some 1 = ap (λ (u : Tag). set_start (row_of u)) e ∙ inverses_start in
    let kids = ap (λ (s : Option ℕ). drop 1 (arranged s (canonicals ks))) start in
    let forms = ap (drop 1) (canonicals_map ks) ∙ drop_map (list_of ks) in
    same_trans (drop 1 (arranged (set_start (row_of t)) (canonicals ks))) (drop 1 (arranged (Some 1) (canonicals ks))) (map canonical (drop 1 (list_of ks)))
    (same_from_equal _ _ kids)
    (same_trans (drop 1 (arranged (Some 1) (canonicals ks))) (drop 1 (canonicals ks)) (map canonical (drop 1 (list_of ks)))
    (arranged_behind (canonicals ks))
    (same_from_equal _ _ forms))

-- kids fit a row exactly if they do as forms, arranged
to_row : (t : Tag) (ks : Kids) → FitsRow t (list_of ks) → FitsRow t (arranged (set_start (row_of t)) (canonicals ks))
to_row t ks h =
    let kids = arranged (set_start (row_of t)) (canonicals ks) in
    record {
      row = row_fits t ks ∙ h.row;
      inverses = λ e.
          let two = h.inverses e in
          two_same (map canonical (drop 1 (list_of ks))) (drop 1 kids) (same_sym (drop 1 kids) (map canonical (drop 1 (list_of ks))) (inverse_forms t ks e))
          (record { one = two.one; other = two.other; each = each_to_form two.one two.other (drop 1 (list_of ks)) two.each });
      keys = λ e.
          key_same (map canonical (list_of ks)) kids (same_sym kids (map canonical (list_of ks)) (arranged_forms t ks)) (canonical_has_key (list_of ks) (h.keys e));
    }

from_row : (t : Tag) (ks : Kids) → FitsRow t (arranged (set_start (row_of t)) (canonicals ks)) → FitsRow t (list_of ks)
from_row t ks h =
    let kids = arranged (set_start (row_of t)) (canonicals ks) in
    record {
      row = sym (row_fits t ks) ∙ h.row;
      inverses = λ e.
          let two = two_same (drop 1 kids) (map canonical (drop 1 (list_of ks))) (inverse_forms t ks e) (h.inverses e) in
          record { one = two.one; other = two.other; each = each_from_form two.one two.other (drop 1 (list_of ks)) two.each };
      keys = λ e. key_of_canonical (list_of ks) (key_same kids (map canonical (list_of ks)) (arranged_forms t ks) (h.keys e));
    }

mutual
  to_canonical_shape : (t : Tree) → IsShaped t → IsShaped (canonical t)
  to_canonical_shape (leaf t a) h = h
  to_canonical_shape (node t ks) h =
      let kids = arranged (set_start (row_of t)) (canonicals ks) in (
        subst (FitsRow t) (sym (list_of_kids_of kids)) (to_row t ks h.0),
        each_shaped kids (all_same IsShaped (canonicals ks) kids (same_sym kids (canonicals ks) (arranged_holds (set_start (row_of t)) (canonicals ks))) (to_canonical_shapes ks h.1)),
      )

  to_canonical_shapes : (ks : Kids) → AreShaped ks → AllByRecursion IsShaped (canonicals ks)
  to_canonical_shapes no_kids h = tt
  to_canonical_shapes (kid t ks) h = (to_canonical_shape t h.0, to_canonical_shapes ks h.1)

mutual
  from_canonical_shape : (t : Tree) → IsShaped (canonical t) → IsShaped t
  from_canonical_shape (leaf t a) h = h
  from_canonical_shape (node t ks) h =
      let kids = arranged (set_start (row_of t)) (canonicals ks) in (
        from_row t ks (subst (FitsRow t) (list_of_kids_of kids) h.0),
        from_canonical_shapes ks (all_same IsShaped kids (canonicals ks) (arranged_holds (set_start (row_of t)) (canonicals ks)) (shaped_each kids h.1)),
      )

  from_canonical_shapes : (ks : Kids) → AllByRecursion IsShaped (canonicals ks) → AreShaped ks
  from_canonical_shapes no_kids h = tt
  from_canonical_shapes (kid t ks) h = (from_canonical_shape t h.0, from_canonical_shapes ks h.1)

pub canonical_shape : (t : Tree) → IsShaped t ↔ IsShaped (canonical t)
canonical_shape t = (to_canonical_shape t, from_canonical_shape t)

pub equivalent_shape : (a b : Tree) → IsEquivalent a b → IsShaped a → IsShaped b
equivalent_shape a b h shaped = (canonical_shape b).1 (subst IsShaped ((equivalent_is_equal_form a b).0 h) ((canonical_shape a).0 shaped))
