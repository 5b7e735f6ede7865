-- The laws of what is needless.
use Rattle.std.proofs.Common.{◌≡◌, ◌⊎◌, inl, inr, ℕ, zero, suc, Bool, true, false, ◌&&◌, ◌||◌, cond, not, List, [], ◌∷◌, filter, Contains, Option, None, Some, refl, ap, ◌∙◌}
use Rattle.std.specs.declared.cmp.Ordering.{Ordering}
use Rattle.std.specs.declared.cmp.Ordering.TheVariants.{Less, Equal, Greater}
use Rattle.std.specs.List.{list_any}
use Rattle.std.specs.Ordering.{eq_by_cmp, is_eq}
use Rattle.std.proofs.lemmas.Cmp.{tied_itself}
use Rattle.owl_list.proofs.FilterLaws.{in_filter as passing_in, from_filter as passing_from}
use Rattle.owl_list.proofs.AscendingLaws.{in_cases, in_head, in_none, in_tail, nothing_ascends}
use Rattle.owl_tree.specs.declared.tag.Tag.{Tag}
use Rattle.owl_tree.specs.declared.tag.Tag.TheVariants as tag
use Rattle.owl_tree.specs.Canonical.{canonical, SetAscends, SetsAscend}
use Rattle.owl_tree.proofs.CanonicalLaws.{ascends_is_canonical}
use Rattle.owl_tree.specs.Order.{tree_cmp}
use Rattle.owl_tree.specs.OrderLaws.{only_equal_trees_tie, trees_total}
use Rattle.owl_tree.specs.Rows.{row_of, set_start}
use Rattle.owl_tree.specs.Tags.{number_of}
use Rattle.owl_tree.specs.Trees.{Tree, leaf, node, no_kids, kid, list_of}
use Rattle.rdf_normal.specs.NormalForms.{bare, bears_notes, has_kids, is_annotated, says_more}

-- the set of an axiom or annotation stands behind its annotations
starts_first : Option ℕ → Bool
starts_first (Some zero) = true
starts_first _ = false

notes_in_front : (t : Tag) → (not (bears_notes t) || not (starts_first (set_start (row_of t)))) ≡ true
unfolding row_of number_of starts_first
notes_in_front tag.Class = refl
notes_in_front _ = refl

behind : (t : Tag) → bears_notes t ≡ true → starts_first (set_start (row_of t)) ≡ false
behind t e = go (bears_notes t) (starts_first (set_start (row_of t))) e (notes_in_front t) where
  go : (a b : Bool) → a ≡ true → (not a || not b) ≡ true → b ≡ false
  go a true e h = cc
  go a false e h = refl

ascends_still : (start : Option ℕ) (a b : Tree) (ts : List Tree) → starts_first start ≡ false → SetAscends start (a ∷ ts) → SetAscends start (b ∷ ts)
unfolding starts_first
ascends_still None a b ts e h = tt
ascends_still (Some zero) a b ts e h = absurd (cc)
ascends_still (Some (suc n)) a b ts e h = h

pub first_of : (a b : Bool) → (a && b) ≡ true → a ≡ true
first_of true b e = refl
first_of false b e = cc

pub second_of : (a b : Bool) → (a && b) ≡ true → b ≡ true
second_of true b e = e
second_of false b e = cc

pub no_notes_ascend : SetsAscend (node tag.Notes no_kids)
unfolding row_of
no_notes_ascend = (nothing_ascends tree_cmp, tt)

bare_ascends : (t : Tree) → is_annotated t ≡ true → SetsAscend t → SetsAscend (bare t)
bare_ascends (leaf t a) e h = h
bare_ascends (node t no_kids) e h = h
bare_ascends (node t (kid notes ks)) e h = (ascends_still (set_start (row_of t)) notes (node tag.Notes no_kids) (list_of ks) (behind t (first_of (bears_notes t) (has_kids notes) e)) h.0, (no_notes_ascend, h.1.1))

pub bare_canonical : (t : Tree) → is_annotated t ≡ true → canonical t ≡ t → canonical (bare t) ≡ bare t
bare_canonical t e f = (ascends_is_canonical (bare t)).0 (bare_ascends t e ((ascends_is_canonical t).1 f))

-- trees that tie are equal
told : (o : Ordering) → is_eq o ≡ true → o ≡ Equal
told Less e = cc
told Equal e = refl
told Greater e = cc

pub equal_trees : (a b : Tree) → eq_by_cmp tree_cmp a b ≡ true → a ≡ b
equal_trees a b e = only_equal_trees_tie a b (told (tree_cmp a b) e)

pub tree_is_itself : (a : Tree) → eq_by_cmp tree_cmp a a ≡ true
tree_is_itself a = ap is_eq (tied_itself trees_total a)

pub both_true : (a b : Bool) → a ≡ true → b ≡ true → (a && b) ≡ true
both_true a b e f = cc

pub says_more_told : (t u : Tree) → says_more t u ≡ true → (is_annotated u ≡ true) × (bare u ≡ t)
says_more_told t u e = (first_of (is_annotated u) (eq_by_cmp tree_cmp (bare u) t) e, equal_trees (bare u) t (second_of (is_annotated u) (eq_by_cmp tree_cmp (bare u) t) e))

pub says_more_if : (u : Tree) → is_annotated u ≡ true → says_more (bare u) u ≡ true
says_more_if u e = both_true (is_annotated u) (eq_by_cmp tree_cmp (bare u) (bare u)) e (tree_is_itself (bare u))

-- some element passes
any_by : (a b : Bool) → (a || b) ≡ true → (a ≡ true) ⊎ (b ≡ true)
any_by true b e = inl refl
any_by false b e = inr e

pub any_told : (test : Tree → Bool) (ts : List Tree) → list_any test ts ≡ true → (u : Tree) × Contains ts u × (test u ≡ true)
any_told test [] e = absurd (cc)
any_told test (t ∷ ts) e = elim (any_by (test t) (list_any test ts) e) [ inl f ↦ (t, in_head t ts, f) | inr f ↦ let r = any_told test ts f in (r.0, in_tail t ts r.0 r.1, r.2) ]

any_first : (a b : Bool) → a ≡ true → (a || b) ≡ true
any_first a b e = cc

any_later : (a b : Bool) → b ≡ true → (a || b) ≡ true
any_later true b e = refl
any_later false b e = e

pub any_if : (test : Tree → Bool) (ts : List Tree) (u : Tree) → Contains ts u → test u ≡ true → list_any test ts ≡ true
any_if test [] u m e = absurd (in_none u m)
any_if test (t ∷ ts) u m e =
    elim (in_cases t ts u m) [
      | inl f ↦ any_first (test t) (list_any test ts) (ap test f ∙ e)
      | inr n ↦ any_later (test t) (list_any test ts) (any_if test ts u n e)
    ]

-- what passes a test
pub in_filter : (test : Tree → Bool) (ts : List Tree) (u : Tree) → Contains ts u → test u ≡ true → Contains (filter test ts) u
in_filter test ts u m e = passing_in test ts u m e

pub from_filter : (test : Tree → Bool) (ts : List Tree) (u : Tree) → Contains (filter test ts) u → Contains ts u × (test u ≡ true)
from_filter test ts u m = let kept = passing_from test ts u m in (kept.inside, kept.passes)

pub not_true : (b : Bool) → not b ≡ true → b ≡ false
not_true true e = cc
not_true false e = refl

pub not_false : (b : Bool) → b ≡ false → not b ≡ true
not_false true e = cc
not_false false e = refl

all_pass_by : (b : Bool) (t : Tree) (ts us : List Tree) → b ≡ true → us ≡ ts → cond b (t ∷ us) us ≡ t ∷ ts
all_pass_by true t ts us e f = ap (λ (xs : List Tree). t ∷ xs) f
all_pass_by false t ts us e f = cc

pub all_pass : (test : Tree → Bool) (ts : List Tree) → ((u : Tree) → Contains ts u → test u ≡ true) → filter test ts ≡ ts
all_pass test [] h = refl
all_pass test (t ∷ ts) h = all_pass_by (test t) t ts (filter test ts) (h t (in_head t ts)) (all_pass test ts (λ u m. h u (in_tail t ts u m)))
