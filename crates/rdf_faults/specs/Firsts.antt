-- The first of a list for which a fact holds.
use Rattle.std.specs.Prelude.{◌≡◌, List, ◌∷◌, ◌++◌}
use Rattle.std.specs.List.{AllByRecursion}

-- it holds for none of them
abbrev pub HoldsForNone : {A : Type 0} → (A → Type 0) → List A → Type 0
HoldsForNone P all = AllByRecursion (λ a. P a → ⊥) all

-- it holds for this one, and for none before it
pub record IsFirst {A : Type 0} (P : A → Type 0) (all : List A) (first : A) : Type 0 where
  pub before : List A
  pub after : List A
  pub split : all ≡ before ++ first ∷ after
  pub none : HoldsForNone P before
  pub holds : P first
