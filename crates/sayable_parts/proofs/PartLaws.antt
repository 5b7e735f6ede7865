-- The laws of parts and of their leaves.
use Rattle.std.proofs.Common.{inl, inr, refl, sym, ap, ◌∙◌, subst, append_assoc}
use Rattle.std.specs.Prelude.{◌≡◌, List, [], ◌∷◌, ◌++◌, map, Contains}
use Rattle.std.specs.List.{AllByRecursion}
use Rattle.std.proofs.lemmas.List.Elements.{Contains-append_cases, Contains-append_left, Contains-append_right}
use Rattle.owl_list.specs.Ascending.{HoldSame}
use Rattle.owl_list.proofs.AscendingLaws.{all_in, ascending_holds, in_cases, in_head, in_none, in_tail, same_sym, same_trans}
use Rattle.owl_tree.specs.Canonical.{canonical, canonicals, arranged}
use Rattle.owl_tree.proofs.CanonicalLaws.{arranged_holds, canonicals_kids_of}
use Rattle.owl_tree.specs.Equivalence.{IsEquivalent}
use Rattle.owl_tree.proofs.EquivalenceLaws.{equivalent_is_equal_form}
use Rattle.owl_tree.specs.Ontologies.{IsSameOntology, Ontology, canonical_list}
use Rattle.owl_tree.proofs.OntologyLaws.{same_ontology_is_equal_form}
use Rattle.owl_tree.specs.Order.{tree_cmp}
use Rattle.owl_tree.specs.OrderLaws.{only_equal_trees_tie, trees_total}
use Rattle.owl_tree.specs.Rows.{row_of, set_start}
use Rattle.owl_tree.specs.Trees.{Tree, Kids, leaf, node, no_kids, kid, kids_of}
use Rattle.owl_doc.specs.Parts.{IsFirstWithout, Leaf, Part, leaves, leaves_of, of_axiom, of_header, parts_of}

-- the leaves of these trees, and of those behind them
pub leaves_both : (ts us : List Tree) → leaves_of (kids_of (ts ++ us)) ≡ leaves_of (kids_of ts) ++ leaves_of (kids_of us)
leaves_both [] us = refl
leaves_both (t ∷ ts) us = ap (λ (ls : List Leaf). leaves t ++ ls) (leaves_both ts us) ∙ sym (append_assoc (leaves t) (leaves_of (kids_of ts)) (leaves_of (kids_of us)))

-- a leaf of some trees is a leaf of one of them
pub record IsLeafIn (ts : List Tree) (l : Leaf) : Type 0 where
  pub tree : Tree
  pub inside : Contains ts tree
  pub leaf : Contains (leaves tree) l

pub leaf_in : (ts : List Tree) (l : Leaf) → Contains (leaves_of (kids_of ts)) l → IsLeafIn ts l
leaf_in [] l m = absurd (in_none l m)
leaf_in (t ∷ ts) l m =
    elim (Contains-append_cases (leaves t) (leaves_of (kids_of ts)) l m) [
      | inl h ↦ record { tree = t; inside = in_head t ts; leaf = h }
      | inr h ↦ let found = leaf_in ts l h in record { tree = found.tree; inside = in_tail t ts found.tree found.inside; leaf = found.leaf }
    ]

pub from_leaf : (ts : List Tree) (t : Tree) (l : Leaf) → Contains ts t → Contains (leaves t) l → Contains (leaves_of (kids_of ts)) l
from_leaf [] t l m h = absurd (in_none t m)
from_leaf (u ∷ us) t l m h =
    elim (in_cases u us t m) [
      | inl e ↦ Contains-append_left (leaves u) (leaves_of (kids_of us)) l (subst (λ (x : Tree). Contains (leaves x) l) (sym e) h)
      | inr n ↦ Contains-append_right (leaves u) (leaves_of (kids_of us)) l (from_leaf us t l n h)
    ]

-- the same trees have the same leaves
among_trees : (ts us : List Tree) → ((t : Tree) → Contains ts t → Contains us t) → (l : Leaf) → Contains (leaves_of (kids_of ts)) l → Contains (leaves_of (kids_of us)) l
among_trees ts us h l m = let found = leaf_in ts l m in from_leaf us found.tree l (h found.tree found.inside) found.leaf

pub same_trees_leaves : (ts us : List Tree) → HoldSame ts us → HoldSame (leaves_of (kids_of ts)) (leaves_of (kids_of us))
same_trees_leaves ts us h l = (among_trees ts us (λ t. (h t).0) l, among_trees us ts (λ t. (h t).1) l)

append_same : (front other rest more : List Leaf) → HoldSame front other → HoldSame rest more → (l : Leaf) → Contains (front ++ rest) l → Contains (other ++ more) l
append_same front other rest more h k l m =
    elim (Contains-append_cases front rest l m) [
      | inl n ↦ Contains-append_left other more l ((h l).0 n)
      | inr n ↦ Contains-append_right other more l ((k l).0 n)
    ]

mutual
  -- a canonical form has the leaves of its tree
  pub canonical_leaves : (t : Tree) → HoldSame (leaves (canonical t)) (leaves t)
  canonical_leaves (leaf t a) = λ l. (λ m. m, λ m. m)
  canonical_leaves (node t ks) =
      let start = set_start (row_of t) in
      let kids = arranged start (canonicals ks) in
      same_trans (leaves_of (kids_of kids)) (leaves_of (kids_of (canonicals ks))) (leaves_of ks)
      (same_trees_leaves kids (canonicals ks) (arranged_holds start (canonicals ks))) (canonicals_leaves ks)

  canonicals_leaves : (ks : Kids) → HoldSame (leaves_of (kids_of (canonicals ks))) (leaves_of ks)
  canonicals_leaves no_kids = λ l. (λ m. m, λ m. m)
  canonicals_leaves (kid t ks) =
      let first = canonical_leaves t in
      let rest = canonicals_leaves ks in
      let more = leaves_of (kids_of (canonicals ks)) in λ l. (
        append_same (leaves (canonical t)) (leaves t) more (leaves_of ks) first rest l,
        append_same (leaves t) (leaves (canonical t)) (leaves_of ks) more (same_sym (leaves (canonical t)) (leaves t) first) (same_sym more (leaves_of ks) rest) l,
      )

-- structurally equivalent trees have the same leaves
pub equivalent_leaves : (t u : Tree) → IsEquivalent t u → HoldSame (leaves t) (leaves u)
equivalent_leaves t u h =
    let same = (equivalent_is_equal_form t u).0 h in
    let forms = subst (λ (v : Tree). HoldSame (leaves v) (leaves u)) (sym same) (canonical_leaves u) in
    same_trans (leaves t) (leaves (canonical t)) (leaves u) (same_sym (leaves (canonical t)) (leaves t) (canonical_leaves t)) forms

-- the canonical list of some trees has their leaves
forms_leaves : (ts : List Tree) → HoldSame (leaves_of (kids_of (map canonical ts))) (leaves_of (kids_of ts))
forms_leaves ts =
    subst (λ (us : List Tree). HoldSame (leaves_of (kids_of us)) (leaves_of (kids_of ts))) (canonicals_kids_of ts) (canonicals_leaves (kids_of ts))

pub canonical_list_leaves : (ts : List Tree) → HoldSame (leaves_of (kids_of (canonical_list ts))) (leaves_of (kids_of ts))
canonical_list_leaves ts =
    same_trans (leaves_of (kids_of (canonical_list ts))) (leaves_of (kids_of (map canonical ts))) (leaves_of (kids_of ts))
    (same_trees_leaves (canonical_list ts) (map canonical ts) (ascending_holds tree_cmp trees_total only_equal_trees_tie (map canonical ts))) (forms_leaves ts)

-- structurally equivalent ontologies have the same parts
pub same_parts : (o p : Ontology) → IsSameOntology o p → parts_of o ≡ parts_of p
same_parts o p h =
    let same = (same_ontology_is_equal_form o p).0 h in
    ap (λ (q : Ontology). of_header q.annotations ∷ map of_axiom q.axioms) same

-- of two ways to cut a list in front of the first element of which a fact doesn't hold, both cut at the same element
pub first_at : {X : Type 0} (Holds : X → Type 0) (before others after more : List X) (x y : X) → before ++ x ∷ after ≡ others ++ y ∷ more → AllByRecursion Holds before → AllByRecursion Holds others → (Holds x → ⊥) → (Holds y → ⊥) → x ≡ y
first_at Holds [] [] after more x y e h k f g = cc
first_at Holds [] (z ∷ others) after more x y e h k f g = let same : z ≡ x = cc in absurd (f (subst Holds same k.0))
first_at Holds (z ∷ before) [] after more x y e h k f g = let same : z ≡ y = cc in absurd (g (subst Holds same h.0))
first_at Holds (z ∷ before) (w ∷ others) after more x y e h k f g =
    let rest : before ++ x ∷ after ≡ others ++ y ∷ more = cc in
    first_at Holds before others after more x y rest h.1 k.1 f g

module _ (Holds : Part → Type 0) where
  -- there is one first part at most
  pub first_once : (parts : List Part) (part other : Part) → IsFirstWithout Holds parts part → IsFirstWithout Holds parts other → part ≡ other
  first_once parts part other h k = first_at Holds h.before k.before h.after k.after part other (sym h.split ∙ k.split) h.held k.held h.fails k.fails

  -- and none where the fact holds of all
  pub no_first : (parts : List Part) (part : Part) → IsFirstWithout Holds parts part → AllByRecursion Holds parts → ⊥
  no_first parts part h all =
      let there : Contains parts part = subst (λ (ps : List Part). Contains ps part) (sym h.split) (Contains-append_right h.before (part ∷ h.after) part (in_head part h.after)) in
      h.fails (all_in Holds parts part all there)
