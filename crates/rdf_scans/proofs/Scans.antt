-- A loop over a list that looks for the first of which a fact holds.
use Rattle.std.proofs.Common.{◌≡◌, ◌<◌, ◌≤◌, ◌+◌, ℕ, suc, List, [], ◌∷◌, ◌++◌, drop, drop-cons, get_or, length, sym, ap, ◌∙◌, subst, take}
use Rattle.std.specs.Prelude.{Contains}
use Rattle.std.specs.List.{AllByRecursion}
use Rattle.std.proofs.lemmas.List.Elements.{Contains-append_right}
use Rattle.std.proofs.lemmas.List.{take-append-drop, take_all, take_more}
use Rattle.owl_list.proofs.AscendingLaws.{in_head}
use Rattle.rdf_faults.specs.Firsts.{HoldsForNone, IsFirst}

module _ {A : Type 0} (Q : A → Type 0) where
  all_of_both : (xs ys : List A) → AllByRecursion Q xs → AllByRecursion Q ys → AllByRecursion Q (xs ++ ys)
  all_of_both [] ys n m = m
  all_of_both (x ∷ xs) ys n m = (n.0, all_of_both xs ys n.1 m)

  module _ (all : List A) (index : ℕ) where
    pub all_yet : (a : A) → index < length all → a ≡ get_or all index a → Q a → AllByRecursion Q (take index all) →
        AllByRecursion Q (take (index + 1) all)
    all_yet a within is holds before =
        subst (AllByRecursion Q) (sym (take_more all index a within))
        (all_of_both (take index all) (get_or all index a ∷ []) before (subst Q is holds, tt))

    pub all_hold : length all ≤ index → AllByRecursion Q (take index all) → AllByRecursion Q all
    all_hold last before = subst (AllByRecursion Q) (take_all index all last) before

module _ {A : Type 0} (P : A → Type 0) where
  module _ (all : List A) (index : ℕ) where
    module _ (a : A) (within : index < length all) (is : a ≡ get_or all index a) where
      pub none_yet : (P a → ⊥) → HoldsForNone P (take index all) → HoldsForNone P (take (index + 1) all)
      none_yet = all_yet (λ b. P b → ⊥) all index a within is

      split_here : all ≡ take index all ++ a ∷ drop (suc index) all
      split_here =
          let here = ap (λ (b : A). b ∷ drop (suc index) all) is ∙ sym (drop-cons all index a within) in
          sym (ap (λ (bs : List A). take index all ++ bs) here ∙ take-append-drop index all)

      pub inside : Contains all a
      inside =
          subst (λ (bs : List A). Contains bs a) (sym split_here)
          (Contains-append_right (take index all) (a ∷ drop (suc index) all) a (in_head a (drop (suc index) all)))

      pub first_found : P a → HoldsForNone P (take index all) → IsFirst P all a
      first_found holds before =
          record { before = take index all; after = drop (suc index) all; split = split_here; none = before; holds = holds }

    pub none_found : length all ≤ index → HoldsForNone P (take index all) → HoldsForNone P all
    none_found = all_hold (λ b. P b → ⊥) all index
