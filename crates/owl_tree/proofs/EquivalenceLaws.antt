-- Trees are structurally equivalent where their canonical forms are equal.
use Rattle.std.proofs.Common.{inl, inr, refl, sym, ap, ◌∙◌, subst}
use Rattle.std.specs.Prelude.{◌≡◌, ◌↔◌, ℕ, zero, suc, List, [], ◌∷◌, map, Contains, Option, None, Some}
use Rattle.owl_list.proofs.AscendingLaws.{in_head, in_tail, in_none, in_cases, ascending_same, same_ascending}
use Rattle.owl_tree.specs.declared.atom.Atom.{Atom}
use Rattle.owl_tree.specs.declared.tag.Tag.{Tag}
use Rattle.owl_tree.specs.Canonical.{canonical, canonicals, arranged, arranged_from}
use Rattle.owl_tree.specs.Equivalence.{Fact, HoldsOfSome, SomeHolds, EachHoldsOfSome, SomeHoldsOfEach, AgreeByPlace, AgreeAsSetFrom, Agree, IsEquivalent, equivalents}
use Rattle.owl_tree.specs.Order.{tree_cmp}
use Rattle.owl_tree.specs.OrderLaws.{trees_total, only_equal_trees_tie}
use Rattle.owl_tree.specs.Rows.{row_of, set_start}
use Rattle.owl_tree.proofs.TreeLaws.{kids_of_only}
use Rattle.owl_tree.specs.Trees.{Tree, Kids, leaf, node, no_kids, kid, list_of}

pub canonicals_map : (ks : Kids) → canonicals ks ≡ map canonical (list_of ks)
canonicals_map no_kids = refl
canonicals_map (kid t ks) = ap (λ (ts : List Tree). canonical t ∷ ts) (canonicals_map ks)

-- the fact holds of the trees with this canonical form, and of no others
record Means (fact : Fact) (form : Tree) : Type 0 where
  pub to : (b : Tree) → fact b → form ≡ canonical b
  pub from : (b : Tree) → form ≡ canonical b → fact b

-- the facts and the forms, place by place
abbrev AllMean : List Fact → List Tree → Type 0
AllMean [] [] = Unit {0}
AllMean [] (form ∷ forms) = ⊥
AllMean (fact ∷ facts) [] = ⊥
AllMean (fact ∷ facts) (form ∷ forms) = Means fact form × AllMean facts forms

-- What is said of the facts in `Equivalence` is so of the forms, in both directions: of some of the trees, and some of the facts.
to_form_in : (fact : Fact) (form : Tree) → Means fact form → (us : List Tree) → HoldsOfSome fact us → Contains (map canonical us) form
to_form_in fact form m [] h = absurd h
to_form_in fact form m (u ∷ us) (inl h) = subst (λ (f : Tree). Contains (canonical u ∷ map canonical us) f) (sym (m.to u h)) (in_head (canonical u) (map canonical us))
to_form_in fact form m (u ∷ us) (inr h) = in_tail (canonical u) (map canonical us) form (to_form_in fact form m us h)

from_form_in : (fact : Fact) (form : Tree) → Means fact form → (us : List Tree) → Contains (map canonical us) form → HoldsOfSome fact us
from_form_in fact form m [] h = absurd (in_none form h)
from_form_in fact form m (u ∷ us) h =
    elim (in_cases (canonical u) (map canonical us) form h) [ inl e ↦ inl (m.from u (sym e)) | inr n ↦ inr (from_form_in fact form m us n) ]

to_among_forms : (facts : List Fact) (forms : List Tree) → AllMean facts forms → (u : Tree) → SomeHolds facts u → Contains forms (canonical u)
to_among_forms [] forms m u h = absurd h
to_among_forms (fact ∷ facts) [] m u h = absurd m
to_among_forms (fact ∷ facts) (form ∷ forms) m u (inl h) = subst (λ (f : Tree). Contains (form ∷ forms) f) (m.0.to u h) (in_head form forms)
to_among_forms (fact ∷ facts) (form ∷ forms) m u (inr h) = in_tail form forms (canonical u) (to_among_forms facts forms m.1 u h)

from_among_forms : (facts : List Fact) (forms : List Tree) → AllMean facts forms → (u : Tree) → Contains forms (canonical u) → SomeHolds facts u
from_among_forms [] [] m u h = absurd (in_none (canonical u) h)
from_among_forms [] (form ∷ forms) m u h = absurd m
from_among_forms (fact ∷ facts) [] m u h = absurd m
from_among_forms (fact ∷ facts) (form ∷ forms) m u h =
    elim (in_cases form forms (canonical u) h) [ inl e ↦ inl (m.0.from u e) | inr n ↦ inr (from_among_forms facts forms m.1 u n) ]

-- each of the facts of some of the trees, and some of the facts of each tree
to_each : (facts : List Fact) (forms us : List Tree) → AllMean facts forms → EachHoldsOfSome facts us → (f : Tree) → Contains forms f → Contains (map canonical us) f
to_each [] [] us m h f n = absurd (in_none f n)
to_each [] (form ∷ forms) us m h f n = absurd m
to_each (fact ∷ facts) [] us m h f n = absurd m
to_each (fact ∷ facts) (form ∷ forms) us m h f n =
    elim (in_cases form forms f n) [
      | inl e ↦ subst (λ (g : Tree). Contains (map canonical us) g) e (to_form_in fact form m.0 us h.0)
      | inr k ↦ to_each facts forms us m.1 h.1 f k
    ]

from_each : (facts : List Fact) (forms us : List Tree) → AllMean facts forms → ((f : Tree) → Contains forms f → Contains (map canonical us) f) → EachHoldsOfSome facts us
from_each [] forms us m h = tt
from_each (fact ∷ facts) [] us m h = absurd m
from_each (fact ∷ facts) (form ∷ forms) us m h =
    (from_form_in fact form m.0 us (h form (in_head form forms)), from_each facts forms us m.1 (λ f n. h f (in_tail form forms f n)))

to_some : (facts : List Fact) (forms us : List Tree) → AllMean facts forms → SomeHoldsOfEach facts us → (f : Tree) → Contains (map canonical us) f → Contains forms f
to_some facts forms [] m h f n = absurd (in_none f n)
to_some facts forms (u ∷ us) m h f n =
    elim (in_cases (canonical u) (map canonical us) f n) [
      | inl e ↦ subst (λ (g : Tree). Contains forms g) e (to_among_forms facts forms m u h.0)
      | inr k ↦ to_some facts forms us m h.1 f k
    ]

from_some : (facts : List Fact) (forms us : List Tree) → AllMean facts forms → ((f : Tree) → Contains (map canonical us) f → Contains forms f) → SomeHoldsOfEach facts us
from_some facts forms [] m h = tt
from_some facts forms (u ∷ us) m h =
    (from_among_forms facts forms m u (h (canonical u) (in_head (canonical u) (map canonical us))), from_some facts forms us m (λ f n. h f (in_tail (canonical u) (map canonical us) f n)))

-- place by place, as sets, and by where a set part begins
to_places : (facts : List Fact) (forms us : List Tree) → AllMean facts forms → AgreeByPlace facts us → forms ≡ map canonical us
to_places [] [] [] m h = refl
to_places [] [] (u ∷ us) m h = absurd h
to_places [] (form ∷ forms) us m h = absurd m
to_places (fact ∷ facts) [] us m h = absurd m
to_places (fact ∷ facts) (form ∷ forms) [] m h = absurd h
to_places (fact ∷ facts) (form ∷ forms) (u ∷ us) m h =
    let e = m.0.to u h.0 in let rest = to_places facts forms us m.1 h.1 in cc

from_places : (facts : List Fact) (forms us : List Tree) → AllMean facts forms → forms ≡ map canonical us → AgreeByPlace facts us
from_places [] [] [] m e = tt
from_places [] [] (u ∷ us) m e = cc
from_places [] (form ∷ forms) us m e = absurd m
from_places (fact ∷ facts) [] us m e = absurd m
from_places (fact ∷ facts) (form ∷ forms) [] m e = cc
from_places (fact ∷ facts) (form ∷ forms) (u ∷ us) m e = (m.0.from u (cc), from_places facts forms us m.1 (cc))

to_set : (n : ℕ) (facts : List Fact) (forms us : List Tree) → AllMean facts forms → AgreeAsSetFrom n facts us → arranged_from n forms ≡ arranged_from n (map canonical us)
to_set zero facts forms us m h =
    ascending_same tree_cmp trees_total only_equal_trees_tie forms (map canonical us) (λ f. (to_each facts forms us m h.0 f, to_some facts forms us m h.1 f))
to_set (suc n) [] [] [] m h = refl
to_set (suc n) [] [] (u ∷ us) m h = absurd h
to_set (suc n) [] (form ∷ forms) us m h = absurd m
to_set (suc n) (fact ∷ facts) [] us m h = absurd m
to_set (suc n) (fact ∷ facts) (form ∷ forms) [] m h = absurd h
to_set (suc n) (fact ∷ facts) (form ∷ forms) (u ∷ us) m h =
    let e = m.0.to u h.0 in let rest = to_set n facts forms us m.1 h.1 in cc

from_set : (n : ℕ) (facts : List Fact) (forms us : List Tree) → AllMean facts forms → arranged_from n forms ≡ arranged_from n (map canonical us) → AgreeAsSetFrom n facts us
from_set zero facts forms us m e =
    let h = same_ascending tree_cmp trees_total only_equal_trees_tie forms (map canonical us) e in
    (from_each facts forms us m (λ f. (h f).0), from_some facts forms us m (λ f. (h f).1))
from_set (suc n) [] [] [] m e = tt
from_set (suc n) [] [] (u ∷ us) m e = cc
from_set (suc n) [] (form ∷ forms) us m e = absurd m
from_set (suc n) (fact ∷ facts) [] us m e = absurd m
from_set (suc n) (fact ∷ facts) (form ∷ forms) [] m e = cc
from_set (suc n) (fact ∷ facts) (form ∷ forms) (u ∷ us) m e = (m.0.from u (cc), from_set n facts forms us m.1 (cc))

to_arranged : (start : Option ℕ) (facts : List Fact) (forms us : List Tree) → AllMean facts forms → Agree start facts us → arranged start forms ≡ arranged start (map canonical us)
to_arranged None facts forms us m h = to_places facts forms us m h
to_arranged (Some n) facts forms us m h = to_set n facts forms us m h

from_arranged : (start : Option ℕ) (facts : List Fact) (forms us : List Tree) → AllMean facts forms → arranged start forms ≡ arranged start (map canonical us) → Agree start facts us
from_arranged None facts forms us m e = from_places facts forms us m e
from_arranged (Some n) facts forms us m e = from_set n facts forms us m e

-- of leaves, and of nodes
to_leaf : (t : Tag) (a : Atom) (b : Tree) → IsEquivalent (leaf t a) b → canonical (leaf t a) ≡ canonical b
to_leaf t a (leaf u b) h = cc
to_leaf t a (node u ls) h = absurd h

from_leaf : (t : Tag) (a : Atom) (b : Tree) → canonical (leaf t a) ≡ canonical b → IsEquivalent (leaf t a) b
from_leaf t a (leaf u b) e = (cc, cc)
from_leaf t a (node u ls) e = cc

to_node : (t u : Tag) (ks ls : Kids) → AllMean (equivalents ks) (canonicals ks) → (t ≡ u) × Agree (set_start (row_of t)) (equivalents ks) (list_of ls) → canonical (node t ks) ≡ canonical (node u ls)
to_node t u ks ls m h =
    let e = to_arranged (set_start (row_of t)) (equivalents ks) (canonicals ks) (list_of ls) m h.1 in
    let f = canonicals_map ls in
    cc

from_node : (t u : Tag) (ks ls : Kids) → AllMean (equivalents ks) (canonicals ks) → canonical (node t ks) ≡ canonical (node u ls) → (t ≡ u) × Agree (set_start (row_of t)) (equivalents ks) (list_of ls)
from_node t u ks ls m e =
    let start : t ≡ u = cc in
    let f = kids_of_only (arranged (set_start (row_of t)) (canonicals ks)) (arranged (set_start (row_of u)) (canonicals ls)) (cc) in
    let g = canonicals_map ls in
    (start, from_arranged (set_start (row_of t)) (equivalents ks) (canonicals ks) (list_of ls) m (cc))

to_equal : (t : Tag) (ks : Kids) → AllMean (equivalents ks) (canonicals ks) → (b : Tree) → IsEquivalent (node t ks) b → canonical (node t ks) ≡ canonical b
to_equal t ks m (leaf u b) h = absurd h
to_equal t ks m (node u ls) h = to_node t u ks ls m h

from_equal : (t : Tag) (ks : Kids) → AllMean (equivalents ks) (canonicals ks) → (b : Tree) → canonical (node t ks) ≡ canonical b → IsEquivalent (node t ks) b
from_equal t ks m (leaf u b) e = cc
from_equal t ks m (node u ls) e = from_node t u ks ls m e

mutual
  equivalence_means : (a : Tree) → Means (IsEquivalent a) (canonical a)
  equivalence_means (leaf t a) = record { to = to_leaf t a; from = from_leaf t a }
  equivalence_means (node t ks) = record { to = to_equal t ks (kids_mean ks); from = from_equal t ks (kids_mean ks) }

  kids_mean : (ks : Kids) → AllMean (equivalents ks) (canonicals ks)
  kids_mean no_kids = tt
  kids_mean (kid t ks) = (equivalence_means t, kids_mean ks)

pub equivalent_is_equal_form : (a b : Tree) → IsEquivalent a b ↔ (canonical a ≡ canonical b)
equivalent_is_equal_form a b = ((equivalence_means a).to b, (equivalence_means a).from b)

pub equivalent_refl : (a : Tree) → IsEquivalent a a
equivalent_refl a = (equivalence_means a).from a refl

pub equivalent_sym : (a b : Tree) → IsEquivalent a b → IsEquivalent b a
equivalent_sym a b h = (equivalence_means b).from a (sym ((equivalence_means a).to b h))

pub equivalent_trans : (a b c : Tree) → IsEquivalent a b → IsEquivalent b c → IsEquivalent a c
equivalent_trans a b c h k = (equivalence_means a).from c ((equivalence_means a).to b h ∙ (equivalence_means b).to c k)
