-- Laws of those elements of a list of which a fact holds.
use Rattle.std.specs.Prelude.{◌≡◌, ◌↔◌, List, [], ◌∷◌, ◌++◌, Contains}
use Rattle.std.specs.List.{AllZip}
use Rattle.std.proofs.Common.{inl, inr, refl, sym, ap, ◌∙◌, subst, append-nil, append_assoc}
use Rattle.owl_list.proofs.AscendingLaws.{in_cases, in_head, in_none, in_tail}
use Rattle.owl_breaches.specs.Those.{AddsThose, AreThose, none, passed, taken}

module _ {X : Type 0} (Holds : X → Type 0) where
  pub those_both : (xs ys us vs : List X) → AreThose Holds xs ys → AreThose Holds us vs → AreThose Holds (xs ++ us) (ys ++ vs)
  those_both xs ys us vs none more = more
  those_both xs ys us vs (taken x xs' ys' h those) more = taken x (xs' ++ us) (ys' ++ vs) h (those_both xs' ys' us vs those more)
  those_both xs ys us vs (passed x xs' ys' h those) more = passed x (xs' ++ us) (ys ++ vs) h (those_both xs' ys us vs those more)

  -- there is one such list
  pub those_once : (xs ys zs : List X) → AreThose Holds xs ys → AreThose Holds xs zs → ys ≡ zs
  those_once xs ys zs none none = refl
  those_once xs ys zs (taken x xs' ys' h those) (taken _ _ zs' k others) = ap (λ (rest : List X). x ∷ rest) (those_once xs' ys' zs' those others)
  those_once xs ys zs (taken x xs' ys' h those) (passed _ _ _ k others) = absurd (k h)
  those_once xs ys zs (passed x xs' _ h those) (taken _ _ zs' k others) = absurd (h k)
  those_once xs ys zs (passed x xs' _ h those) (passed _ _ _ k others) = those_once xs' ys zs those others

  -- where it is empty, the fact holds of none, and back
  pub none_holds : (xs : List X) → AreThose Holds xs [] → (x : X) → Contains xs x → Holds x → ⊥
  none_holds xs none x m h = in_none x m
  none_holds xs (passed y ys _ not_so those) x m h =
      elim (in_cases y ys x m) [
        | inl e ↦ not_so (subst Holds (sym e) h)
        | inr n ↦ none_holds ys those x n h
      ]

  pub holds_none : (xs : List X) → ((x : X) → Contains xs x → Holds x → ⊥) → AreThose Holds xs []
  holds_none [] h = none
  holds_none (x ∷ xs) h = passed x xs [] (h x (in_head x xs)) (holds_none xs (λ y m. h y (in_tail x xs y m)))

  -- a fact that holds just where another holds has the same elements
  pub those_same : (Other : X → Type 0) → ((x : X) → Holds x ↔ Other x) → (xs ys : List X) → AreThose Holds xs ys → AreThose Other xs ys
  those_same Other same xs ys none = none
  those_same Other same xs ys (taken x xs' ys' h those) = taken x xs' ys' ((same x).0 h) (those_same Other same xs' ys' those)
  those_same Other same xs ys (passed x xs' _ h those) = passed x xs' ys (λ o. h ((same x).1 o)) (those_same Other same xs' ys those)

-- steps of a loop that adds them
module _ {X Y : Type 0} (Holds : X → Type 0) (Tells : X → Y → Type 0) where
  zipped_both : (xs us : List X) (ys vs : List Y) → AllZip Tells xs ys → AllZip Tells us vs → AllZip Tells (xs ++ us) (ys ++ vs)
  zipped_both [] us [] vs told more = more
  zipped_both [] us (y ∷ ys) vs told more = absurd told
  zipped_both (x ∷ xs) us [] vs told more = absurd told
  zipped_both (x ∷ xs) us (y ∷ ys) vs told more = (told.0, zipped_both xs us ys vs told.1 more)

  pub adds_none : (ys : List Y) → AddsThose Holds Tells [] ys ys
  adds_none ys = record { those = []; are = none; more = []; told = tt; grown = sym (append-nil ys) }

  pub adds_both : (xs us : List X) (old middle new : List Y) → AddsThose Holds Tells xs old middle → AddsThose Holds Tells us middle new → AddsThose Holds Tells (xs ++ us) old new
  adds_both xs us old middle new h k = record {
    those = h.those ++ k.those;
    are = those_both Holds xs h.those us k.those h.are k.are;
    more = h.more ++ k.more;
    told = zipped_both h.those k.those h.more k.more h.told k.told;
    grown = k.grown ∙ (ap (λ (zs : List Y). zs ++ k.more) h.grown ∙ append_assoc old h.more k.more);
  }

  -- one element is added where it holds of it
  pub adds_it : (x : X) (y : Y) (old : List Y) → Holds x → Tells x y → AddsThose Holds Tells (x ∷ []) old (old ++ y ∷ [])
  adds_it x y old h told = record { those = x ∷ []; are = taken x [] [] h none; more = y ∷ []; told = (told, tt); grown = refl }

  pub adds_not : (x : X) (old : List Y) → (Holds x → ⊥) → AddsThose Holds Tells (x ∷ []) old old
  adds_not x old h = record { those = []; are = passed x [] [] h none; more = []; told = tt; grown = sym (append-nil old) }
