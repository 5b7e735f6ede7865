-- Forms that are looked for, and kids by their places.
use Rattle.std.proofs.Common.{◌≡◌, ◌<◌, ◌≤◌, ◌+◌, ℕ, zero, suc, Bool, true, false, ◌&&◌, List, [], ◌∷◌, drop, get_or, length, map, refl, sym, ap, ◌∙◌, arith, drop-cons, drop_of_length-le}
use Rattle.profile_sorts.specs.declared.sort.Sort.{Sort}
use Rattle.profile_sorts.specs.Sorts.{have}

-- the kid in a place is of its sort, and so are those behind it
front_from : (front : List Sort) (rest : Sort) (place : ℕ) (k : Sort → Bool) (ks : List (Sort → Bool)) → have (drop place front) rest (k ∷ ks) ≡ (k (get_or front place rest) && have (drop (suc place) front) rest ks)
front_from [] rest zero k ks = refl
front_from [] rest (suc place) k ks = refl
front_from (s ∷ front) rest zero k ks = refl
front_from (s ∷ front) rest (suc place) k ks = front_from front rest place k ks

module _ (front : List Sort) (rest : Sort) {X : Type 0} (f : X → Sort → Bool) (xs : List X) (place : ℕ) where
  from_place : (x : X) → place < length xs → have (drop place front) rest (map f (drop place xs)) ≡ (f (get_or xs place x) (get_or front place rest) && have (drop (suc place) front) rest (map f (drop (suc place) xs)))
  from_place x inside =
      ap (λ (ys : List X). have (drop place front) rest (map f ys)) (drop-cons xs place x inside)
      ∙ front_from front rest place (f (get_or xs place x)) (map f (drop (suc place) xs))

  kid_at : (x : X) (s : Sort) → place < length xs → x ≡ get_or xs place x → s ≡ get_or front place rest → (b : Bool) → f x s ≡ b → have (drop place front) rest (map f (drop place xs)) ≡ (b && have (drop (suc place) front) rest (map f (drop (suc place) xs)))
  kid_at x s inside here sort b e =
      let told : f (get_or xs place x) (get_or front place rest) ≡ b = ap (λ (s : Sort). f (get_or xs place x) s) (sym sort) ∙ ap (λ (y : X). f y s) (sym here) ∙ e in
      from_place x inside ∙ ap (λ (c : Bool). c && have (drop (suc place) front) rest (map f (drop (suc place) xs))) told

  pub misplaced : (x : X) (s : Sort) → place < length xs → x ≡ get_or xs place x → s ≡ get_or front place rest → f x s ≡ false → have (drop place front) rest (map f (drop place xs)) ≡ false
  misplaced x s inside here sort e = kid_at x s inside here sort false e

  pub placed : (x : X) (s : Sort) → place < length xs → x ≡ get_or xs place x → s ≡ get_or front place rest → f x s ≡ true → have (drop place front) rest (map f (drop place xs)) ≡ have (drop (place + 1) front) rest (map f (drop (place + 1) xs))
  placed x s inside here sort e =
      let next : suc place ≡ place + 1 = omega arith in
      kid_at x s inside here sort true e ∙ ap (λ (n : ℕ). have (drop n front) rest (map f (drop n xs))) next

  pub at_end : length xs ≤ place → have (drop place front) rest (map f (drop place xs)) ≡ true
  at_end end = ap (λ (ys : List X). have (drop place front) rest (map f ys)) (drop_of_length-le xs end)
