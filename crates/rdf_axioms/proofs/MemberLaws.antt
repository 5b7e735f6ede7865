-- The members of a set in canonical form: how many they are, and which comes first.
use Rattle.std.proofs.Common.{◌≡◌, ◌≤◌, ◌⊎◌, true, false, List, [], ◌∷◌, length, inl, inr, refl, sym, ap, ◌∙◌, subst, arith}
use Rattle.std.specs.Prelude.{Contains}
use Rattle.std.specs.List.{AllByRecursion}
use Rattle.std.specs.Ordering.{ordering_then}
use Rattle.std.specs.declared.cmp.Ordering.{Ordering}
use Rattle.std.specs.declared.cmp.Ordering.TheVariants.{Less, Greater}
use Rattle.std.proofs.lemmas.Bool.{both_ways}
use Rattle.owl_list.specs.Ascending.{AreApart, IsAscending}
use Rattle.owl_list.proofs.AscendingLaws.{apart_from_ascending, in_head, in_tail}
use Rattle.owl_tree.specs.declared.row.Sort.TheVariants as sort
use Rattle.owl_tree.specs.declared.tag.Tag.{Tag}
use Rattle.owl_tree.specs.declared.tag.Tag.TheVariants as tag
use Rattle.owl_tree.specs.Canonical.{EachSetsAscend, canonical}
use Rattle.owl_tree.proofs.CanonicalLaws.{ascends_is_canonical}
use Rattle.owl_tree.specs.Equivalence.{IsEquivalent}
use Rattle.owl_tree.proofs.EquivalenceLaws.{equivalent_is_equal_form}
use Rattle.owl_tree.specs.Order.{atom_cmp, kids_cmp, tag_cmp, tree_cmp}
use Rattle.owl_tree.specs.OrderLaws.{trees_total}
use Rattle.owl_tree.specs.Rows.{admits}
use Rattle.owl_tree.specs.Shape.{AreAtMostTwo}
use Rattle.owl_tree.specs.Tags.{number_of}
use Rattle.owl_tree.specs.Trees.{Tree, Kids, leaf, node, no_kids, kid, list_of, tag_of}

-- Of trees in canonical form that ascend, at most two are equivalent to one of two.

same_form : (a one : Tree) → canonical a ≡ a → IsEquivalent a one → a ≡ canonical one
same_form a one c h = sym c ∙ (equivalent_is_equal_form a one).0 h

either_form : (a one other : Tree) → canonical a ≡ a → IsEquivalent a one ⊎ IsEquivalent a other → (a ≡ canonical one) ⊎ (a ≡ canonical other)
either_form a one other c (inl h) = inl (same_form a one c h)
either_form a one other c (inr h) = inr (same_form a other c h)

-- of three that are one of two, two are one
two_same : {X : Type 0} (a b c x y : X) → (a ≡ x) ⊎ (a ≡ y) → (b ≡ x) ⊎ (b ≡ y) → (c ≡ x) ⊎ (c ≡ y) → (a ≡ b) ⊎ ((a ≡ c) ⊎ (b ≡ c))
two_same a b c x y (inl e) (inl f) h = inl (e ∙ sym f)
two_same a b c x y (inl e) (inr f) (inl g) = inr (inl (e ∙ sym g))
two_same a b c x y (inl e) (inr f) (inr g) = inr (inr (f ∙ sym g))
two_same a b c x y (inr e) (inr f) h = inl (e ∙ sym f)
two_same a b c x y (inr e) (inl f) (inr g) = inr (inl (e ∙ sym g))
two_same a b c x y (inr e) (inl f) (inl g) = inr (inr (f ∙ sym g))

abbrev pub AreForms : List Tree → Type 0
AreForms ts = AllByRecursion (λ t. canonical t ≡ t) ts

pub few_members : (ts : List Tree) → IsAscending tree_cmp ts → AreForms ts → AreAtMostTwo ts → length ts ≤ 2
few_members [] a c h = omega arith
few_members (t ∷ []) a c h = omega arith
few_members (t ∷ u ∷ []) a c h = omega arith
few_members (t ∷ u ∷ v ∷ ts) a c h =
    let apart : AreApart (t ∷ u ∷ v ∷ ts) = apart_from_ascending tree_cmp trees_total (t ∷ u ∷ v ∷ ts) a in
    elim (two_same t u v (canonical h.one) (canonical h.other) (either_form t h.one h.other c.0 h.each.0) (either_form u h.one h.other c.1.0 h.each.1.0) (either_form v h.one h.other c.1.1.0 h.each.1.1.0)) [
      | inl e ↦ absurd (apart.0 (subst (λ x. Contains (u ∷ v ∷ ts) x) (sym e) (in_head u (v ∷ ts))))
      | inr d ↦
          elim d [
            | inl e ↦ absurd (apart.0 (subst (λ x. Contains (u ∷ v ∷ ts) x) (sym e) (in_tail u (v ∷ ts) v (in_head v ts))))
            | inr e ↦ absurd (apart.1.0 (subst (λ x. Contains (v ∷ ts) x) (sym e) (in_head v ts)))
          ]
    ]

-- the kids of a canonical tree are canonical
pub forms_of_kids : (ks : Kids) → EachSetsAscend ks → AreForms (list_of ks)
forms_of_kids no_kids h = tt
forms_of_kids (kid t ks) h = ((ascends_is_canonical t).0 h.0, forms_of_kids ks h.1)

-- A named property comes before an inverse.

named_first : (a : Tag) (o : Ordering) → admits sort.ObjectPropertyExpression a ≡ true → ordering_then (tag_cmp a tag.ObjectProperty) o ≡ Less → a ≡ tag.ObjectProperty
unfolding admits number_of
named_first tag.ObjectProperty o h e = refl
named_first tag.ObjectInverseOf o h e = absurd (cc)
named_first _ o h e = absurd (both_ways false refl h)

named_before : (a b : Tag) (o : Ordering) → admits sort.ObjectPropertyExpression a ≡ true → ordering_then (tag_cmp a b) o ≡ Less → b ≡ tag.ObjectProperty → a ≡ tag.ObjectProperty
named_before a b o h e named = named_first a o h (ap (λ (c : Tag). ordering_then (tag_cmp a c) o) (sym named) ∙ e)

-- what comes before a named property is one
pub named_below : (t u : Tree) → admits sort.ObjectPropertyExpression (tag_of t) ≡ true → tree_cmp t u ≡ Less → tag_of u ≡ tag.ObjectProperty → tag_of t ≡ tag.ObjectProperty
named_below (leaf a x) (leaf b y) h e named = named_before a b (atom_cmp x y) h e named
named_below (leaf a x) (node b ls) h e named = named_before a b Less h e named
named_below (node a ks) (leaf b y) h e named = named_before a b Greater h e named
named_below (node a ks) (node b ls) h e named = named_before a b (kids_cmp ks ls) h e named
