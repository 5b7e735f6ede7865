-- The first difference of two lists of numbers, place by place.
use Rattle.std.proofs.Common.{◌≡◌, ◌<◌, ◌≤◌, ◌+◌, ℕ, zero, suc, Bool, true, false, List, [], ◌∷◌, Option, None, Some, length, get_or, drop, drop-cons, refl, subst, sym, ap, ◌∙◌, arith, add-one}
use Rattle.std.specs.Prelude.{nat_eq, min, IfSome}
use Rattle.std.specs.List.{AllByRecursion}
use Rattle.std.proofs.lemmas.Bool.{eq-eqb, ne_eqb}
use Rattle.owl_arena.specs.Differences.{differ_or, first_difference}

-- what is left begins with the numbers at the place
at_place : (ks ls : List ℕ) (i : ℕ) → i < length ks → i < length ls → first_difference (drop i ks) (drop i ls) ≡ differ_or (nat_eq (get_or ks i 0) (get_or ls i 0)) (get_or ks i 0) (get_or ls i 0) (first_difference (drop (i + 1) ks) (drop (i + 1) ls))
at_place ks ls i h k = rw (add-one, drop-cons ks i 0 h, drop-cons ls i 0 k) refl

pub further : (ks ls : List ℕ) (i : ℕ) (all : Option (ℕ × ℕ)) → i < length ks → i < length ls → get_or ks i 0 ≡ get_or ls i 0 → first_difference (drop i ks) (drop i ls) ≡ all → first_difference (drop (i + 1) ks) (drop (i + 1) ls) ≡ all
further ks ls i all h k e f =
    let step = at_place ks ls i h k in
    let same = eq-eqb (get_or ks i 0) (get_or ls i 0) e in
    let this = ap (λ (b : Bool). differ_or b (get_or ks i 0) (get_or ls i 0) (first_difference (drop (i + 1) ks) (drop (i + 1) ls))) same in
    cc

pub found : (ks ls : List ℕ) (i : ℕ) (all : Option (ℕ × ℕ)) → i < length ks → i < length ls → (get_or ks i 0 ≡ get_or ls i 0 → ⊥) → first_difference (drop i ks) (drop i ls) ≡ all → Some (get_or ks i 0, get_or ls i 0) ≡ all
found ks ls i all h k e f =
    let step = at_place ks ls i h k in
    let other = ne_eqb (get_or ks i 0) (get_or ls i 0) e in
    let this = ap (λ (b : Bool). differ_or b (get_or ks i 0) (get_or ls i 0) (first_difference (drop (i + 1) ks) (drop (i + 1) ls))) other in
    cc

nothing_left : (ks : List ℕ) → first_difference ks [] ≡ None
nothing_left [] = refl
nothing_left (k ∷ ks) = refl

none_shorter : (ks ls : List ℕ) (i : ℕ) → min (length ks) (length ls) ≤ i → first_difference (drop i ks) (drop i ls) ≡ None
none_shorter [] ls zero h = refl
none_shorter [] ls (suc i) h = refl
none_shorter (k ∷ ks) [] zero h = refl
none_shorter (k ∷ ks) [] (suc i) h = nothing_left (drop i ks)
none_shorter (k ∷ ks) (l ∷ ls) zero h = absurd (omega arith)
none_shorter (k ∷ ks) (l ∷ ls) (suc i) h = none_shorter ks ls i (omega arith)

pub none_found : (ks ls : List ℕ) (i : ℕ) → min (length ks) (length ls) ≤ i → first_difference (drop i ks) (drop i ls) ≡ first_difference ks ls → None ≡ first_difference ks ls
none_found ks ls i h f = sym (none_shorter ks ls i h) ∙ f

differ_in : (same : Bool) (k l : ℕ) (rest : Option (ℕ × ℕ)) (P Q : ℕ → Type 0) (p : ℕ × ℕ) → P k → Q l → (rest ≡ Some p → P p.0 × Q p.1) → differ_or same k l rest ≡ Some p → P p.0 × Q p.1
differ_in true k l rest P Q p h j f e = f e
differ_in false k l rest P Q p h j f e = subst (λ (q : Option (ℕ × ℕ)). IfSome q (λ r. P r.0 × Q r.1)) e (h, j)

-- what is true of all numbers is true of those that differ
pub differ_among : (P Q : ℕ → Type 0) (ks ls : List ℕ) (p : ℕ × ℕ) → AllByRecursion P ks → AllByRecursion Q ls → first_difference ks ls ≡ Some p → P p.0 × Q p.1
differ_among P Q [] ls p h j e = absurd cc
differ_among P Q (k ∷ ks) [] p h j e = absurd cc
differ_among P Q (k ∷ ks) (l ∷ ls) p h j e = differ_in (nat_eq k l) k l (first_difference ks ls) P Q p h.0 j.0 (differ_among P Q ks ls p h.1 j.1) e
