-- The laws of tidied trees.
use Rattle.std.proofs.Common.{◌≡◌, ℕ, zero, suc, Bool, true, false, cond, not, List, [], ◌∷◌, map, Contains, Option, None, Some, refl, sym, ap, ◌∙◌, subst}
use Rattle.std.specs.List.{AllByRecursion, list_any}
use Rattle.std.proofs.lemmas.Bool.{false_from_ne_true}
use Rattle.std.proofs.lemmas.List.Kept.{IsStrictlySortedBy-filter}
use Rattle.owl_list.specs.Ascending.{IsAscending, ascending}
use Rattle.owl_list.proofs.AscendingLaws.{all_from, all_in, ascending_again, from_map, ascending_ascends, ascending_holds}
use Rattle.owl_tree.specs.declared.tag.Tag.{Tag}
use Rattle.owl_tree.specs.declared.tag.Tag.TheVariants as tag
use Rattle.owl_tree.specs.Canonical.{canonical, arranged, arranged_from}
use Rattle.owl_tree.proofs.CanonicalLaws.{arranged_holds, node_of_forms}
use Rattle.owl_tree.specs.Order.{tree_cmp}
use Rattle.owl_tree.specs.OrderLaws.{only_equal_trees_tie, trees_total}
use Rattle.owl_tree.specs.Rows.{is_tag, row_of, set_start}
use Rattle.owl_tree.specs.Trees.{Tree, Kids, leaf, node, no_kids, kid, kids_of, list_of}
use Rattle.rdf_normal.proofs.DeclaredLaws.{tag_told}
use Rattle.rdf_normal.proofs.NeedlessLaws.{all_pass, any_if, any_told, both_true, first_of, from_filter, not_false, not_true, second_of}
use Rattle.rdf_normal.specs.NormalForms.{is_needless, needed, needed_in, over, says_more, settled, tidied, tidieds}
use Rattle.rdf_normal.specs.OneTriple.{is_one_triple}

-- what is needed is needed of what is needed
pub needed_twice : (ts : List Tree) → needed (needed ts) ≡ needed ts
needed_twice ts =
    all_pass (λ t. not (is_needless (needed ts) t)) (needed ts)
    (λ u m.
    let p = from_filter (λ t. not (is_needless ts t)) ts u m in
    not_false (is_needless (needed ts) u)
    (false_from_ne_true (is_needless (needed ts) u)
    (λ e.
    let one = first_of (is_one_triple u) (list_any (says_more u) (needed ts)) e in
    let more = any_told (says_more u) (needed ts) (second_of (is_one_triple u) (list_any (says_more u) (needed ts)) e) in
    let other = from_filter (λ t. not (is_needless ts t)) ts more.0 more.1 in
    let needless : is_needless ts u ≡ true = both_true (is_one_triple u) (list_any (says_more u) ts) one (any_if (says_more u) ts more.0 other.0 more.2) in
    let kept = not_true (is_needless ts u) p.1 in
    cc)))

-- Arranged trees.

arranged_from_again : (n : ℕ) (ts : List Tree) → arranged_from n (arranged_from n ts) ≡ arranged_from n ts
arranged_from_again zero ts = ascending_again tree_cmp trees_total only_equal_trees_tie (ascending tree_cmp ts) (ascending_ascends tree_cmp trees_total ts)
arranged_from_again (suc n) [] = refl
arranged_from_again (suc n) (t ∷ ts) = ap (λ (us : List Tree). t ∷ us) (arranged_from_again n ts)

arranged_again : (start : Option ℕ) (ts : List Tree) → arranged start (arranged start ts) ≡ arranged start ts
arranged_again None ts = refl
arranged_again (Some n) ts = arranged_from_again n ts

needed_ascends : (ts : List Tree) → IsAscending tree_cmp ts → IsAscending tree_cmp (needed ts)
needed_ascends ts h = IsStrictlySortedBy-filter tree_cmp (λ t. not (is_needless ts t)) ts h

notes_arranged : (ts : List Tree) → arranged (set_start (row_of tag.Notes)) ts ≡ ascending tree_cmp ts
unfolding row_of
notes_arranged ts = refl

notes_stay : (ts : List Tree) → arranged (set_start (row_of tag.Notes)) (needed (arranged (set_start (row_of tag.Notes)) ts)) ≡ needed (arranged (set_start (row_of tag.Notes)) ts)
notes_stay ts =
    ap (λ (us : List Tree). arranged (set_start (row_of tag.Notes)) (needed us)) (notes_arranged ts)
    ∙ notes_arranged (needed (ascending tree_cmp ts))
    ∙ ascending_again tree_cmp trees_total only_equal_trees_tie (needed (ascending tree_cmp ts)) (needed_ascends (ascending tree_cmp ts) (ascending_ascends tree_cmp trees_total ts))
    ∙ ap needed (sym (notes_arranged ts))

in_order_by : (b : Bool) (t : Tag) (ts : List Tree) → is_tag tag.Notes t ≡ b → arranged (set_start (row_of t)) (cond b (needed (arranged (set_start (row_of t)) ts)) (arranged (set_start (row_of t)) ts)) ≡ cond b (needed (arranged (set_start (row_of t)) ts)) (arranged (set_start (row_of t)) ts)
in_order_by true t ts e =
    subst (λ (u : Tag). arranged (set_start (row_of u)) (needed (arranged (set_start (row_of u)) ts)) ≡ needed (arranged (set_start (row_of u)) ts)) (sym (tag_told tag.Notes t e)) (notes_stay ts)
in_order_by false t ts e = arranged_again (set_start (row_of t)) ts

-- kids of a tidied tree stand in order
in_order : (t : Tag) (ts : List Tree) → arranged (set_start (row_of t)) (needed_in t (arranged (set_start (row_of t)) ts)) ≡ needed_in t (arranged (set_start (row_of t)) ts)
in_order t ts = in_order_by (is_tag tag.Notes t) t ts refl

needed_by : (b : Bool) (ts : List Tree) → cond b (needed (cond b (needed ts) ts)) (cond b (needed ts) ts) ≡ cond b (needed ts) ts
needed_by true ts = needed_twice ts
needed_by false ts = refl

-- a needed kid is a kid
pub in_needed_in : (t : Tag) (ts : List Tree) (u : Tree) → Contains (needed_in t ts) u → Contains ts u
in_needed_in t ts u = by (is_tag tag.Notes t)
  where
    by : (b : Bool) → Contains (cond b (needed ts) ts) u → Contains ts u
    by true m = (from_filter (λ v. not (is_needless ts v)) ts u m).0
    by false m = m

-- Tidy trees.

-- it is canonical, and stays when it is tidied
pub record IsTidy (t : Tree) : Type 0 where
  pub canonical : canonical t ≡ t
  pub tidied : tidied t ≡ t

forms_stay : (ts : List Tree) → AllByRecursion IsTidy ts → map canonical ts ≡ ts
forms_stay [] h = refl
forms_stay (t ∷ ts) h = let first = h.0.canonical in let rest = forms_stay ts h.1 in cc

pub tidied_stay : (ts : List Tree) → AllByRecursion IsTidy ts → map tidied ts ≡ ts
tidied_stay [] h = refl
tidied_stay (t ∷ ts) h = let first = h.0.tidied in let rest = tidied_stay ts h.1 in cc

pub tidieds_of : (ts : List Tree) → tidieds (kids_of ts) ≡ map tidied ts
tidieds_of [] = refl
tidieds_of (t ∷ ts) = ap (λ (us : List Tree). tidied t ∷ us) (tidieds_of ts)

pub tidieds_map : (ks : Kids) → tidieds ks ≡ map tidied (list_of ks)
tidieds_map no_kids = refl
tidieds_map (kid t ks) = ap (λ (us : List Tree). tidied t ∷ us) (tidieds_map ks)

tidy_node : (t : Tag) (ts : List Tree) → AllByRecursion IsTidy ts → IsTidy (over t (needed_in t (arranged (set_start (row_of t)) ts)))
tidy_node t ts h =
    let us : List Tree = needed_in t (arranged (set_start (row_of t)) ts) in
    let all : AllByRecursion IsTidy us = all_from IsTidy us (λ u m. all_in IsTidy ts u h ((arranged_holds (set_start (row_of t)) ts u).0 (in_needed_in t (arranged (set_start (row_of t)) ts) u m))) in
    record {
      canonical = node_of_forms t us (forms_stay us all) ∙ ap (over t) (in_order t ts);
      tidied =
          ap (λ (xs : List Tree). over t (needed_in t (arranged (set_start (row_of t)) xs))) (tidieds_of us ∙ tidied_stay us all)
          ∙ ap (λ (xs : List Tree). over t (needed_in t xs)) (in_order t ts)
          ∙ ap (over t) (needed_by (is_tag tag.Notes t) (arranged (set_start (row_of t)) ts));
    }

mutual
  -- a tidied tree is tidy
  pub tidied_tidy : (t : Tree) → IsTidy (tidied t)
  tidied_tidy (leaf t a) = record { canonical = refl; tidied = refl }
  tidied_tidy (node t ks) = tidy_node t (tidieds ks) (tidieds_tidy ks)

  tidieds_tidy : (ks : Kids) → AllByRecursion IsTidy (tidieds ks)
  tidieds_tidy no_kids = tt
  tidieds_tidy (kid t ks) = (tidied_tidy t, tidieds_tidy ks)

-- what is settled stays
pub settled_tidy : (ts : List Tree) → AllByRecursion IsTidy (settled ts)
settled_tidy ts =
    let all : List Tree = ascending tree_cmp (map tidied ts) in
    all_from IsTidy (settled ts)
    (λ u m.
    let p = from_filter (λ t. not (is_needless all t)) all u m in
    let v = from_map tidied ts u ((ascending_holds tree_cmp trees_total only_equal_trees_tie (map tidied ts) u).0 p.0) in
    subst IsTidy v.value (tidied_tidy v.element))

pub settled_in_order : (ts : List Tree) → ascending tree_cmp (settled ts) ≡ settled ts
settled_in_order ts =
    let all : List Tree = ascending tree_cmp (map tidied ts) in
    ascending_again tree_cmp trees_total only_equal_trees_tie (settled ts) (needed_ascends all (ascending_ascends tree_cmp trees_total (map tidied ts)))

pub settled_form : (ts : List Tree) → ascending tree_cmp (map canonical (settled ts)) ≡ settled ts
settled_form ts = ap (ascending tree_cmp) (forms_stay (settled ts) (settled_tidy ts)) ∙ settled_in_order ts

pub settled_again : (ts : List Tree) → settled (settled ts) ≡ settled ts
settled_again ts =
    ap (λ (us : List Tree). needed (ascending tree_cmp us)) (tidied_stay (settled ts) (settled_tidy ts))
    ∙ ap needed (settled_in_order ts)
    ∙ needed_twice (ascending tree_cmp (map tidied ts))
