-- Lists with one thing more at their end.
use Rattle.std.proofs.Common.{◌≡◌, List, [], ◌∷◌, ◌++◌, refl}

-- A list with one more at its end, in parts: the one more is the middle, or stands behind it.
pub data LastParts {X : Type 0} (xs : List X) (x : X) (front : List X) (middle : X) : Type 0 where
  last : front ≡ xs → middle ≡ x → LastParts xs x front middle
  sooner : (back : List X) → xs ≡ front ++ middle ∷ back → LastParts xs x front middle

none_before : {X : Type 0} (x : X) (ys : List X) (y : X) (zs : List X) (z : X) → x ∷ [] ≡ z ∷ (ys ++ y ∷ zs) → ⊥
none_before x [] y zs z e = cc
none_before x (w ∷ ys) y zs z e = cc

parts_more : {X : Type 0} (z w : X) (xs : List X) (x : X) (front : List X) (middle : X) → z ≡ w → LastParts xs x front middle → LastParts (z ∷ xs) x (w ∷ front) middle
parts_more z w xs x front middle e (last f m) = last (cc) m
parts_more z w xs x front middle e (sooner back f) = sooner back (cc)

pub last_parts : {X : Type 0} (xs : List X) (x : X) (front : List X) (middle : X) (back : List X) → xs ++ x ∷ [] ≡ front ++ middle ∷ back → LastParts xs x front middle
last_parts [] x [] middle back e = last refl (cc)
last_parts [] x (z ∷ front) middle back e = absurd (none_before x front middle back z e)
last_parts (z ∷ xs) x [] middle back e = sooner xs (cc)
last_parts (z ∷ xs) x (w ∷ front) middle back e = parts_more z w xs x front middle (cc) (last_parts xs x front middle back (cc))
