-- Lists that are made of others, element by element.
use Rattle.std.proofs.Common.{◌≡◌, ◌≤◌, ◌<◌, ◌+◌, ◌++◌, append_assoc, ℕ, List, [], ◌∷◌, get_or, length, take, sym, ap, ◌∙◌}
use Rattle.std.proofs.lemmas.List.{take_all, take_more}

-- two more elements
pub two_pushed : {Y : Type 0} (old : List Y) (y z : Y) → (old ++ y ∷ []) ++ z ∷ [] ≡ old ++ y ∷ z ∷ []
two_pushed old y z = append_assoc old (y ∷ []) (z ∷ [])

module _ {X Y : Type 0} (F G : List X → List Y) where
  -- one more element
  pub made_step : ((xs ys : List X) → F (xs ++ ys) ≡ F xs ++ G ys) → (xs : List X) (i : ℕ) (x : X) (old new : List Y) → i < length xs → x ≡ get_or xs i x → old ≡ F (take i xs) → new ≡ old ++ G (x ∷ []) → new ≡ F (take (i + 1) xs)
  made_step both xs i x old new h is made more =
      more ∙ (ap (λ (ys : List Y). ys ++ G (x ∷ [])) made ∙ (sym (both (take i xs) (x ∷ [])) ∙ ap F (ap (λ (y : X). take i xs ++ y ∷ []) is ∙ sym (take_more xs i x h))))

  -- and behind the last
  pub made_end : (xs : List X) (i : ℕ) (all : List Y) → length xs ≤ i → all ≡ F (take i xs) → all ≡ F xs
  made_end xs i all h made = made ∙ ap F (take_all i xs h)
