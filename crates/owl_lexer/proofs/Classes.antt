-- The class of a character stands at the first interval that does not end before it, or at its place in a table of classes.
use Rattle.std.proofs.Common.{◌≡◌, ◌==◌, ℕ, ◌+◌, zero, suc, add-zero, ap, sym, ◌<◌, ◌≤◌, true, false, List, [], ◌∷◌, length, get_or, refl, ◌∙◌, arith}
use Rattle.std.specs.Prelude.{nat_le, nat_lt}
use Rattle.std.specs.List.Sorted.{IsPartitionPoint, IsPartitionedBy}
use Rattle.std.proofs.lemmas.Bool.{and_parts, cond-false, cond-true, eqb-true, le-leb, leb-true, lt-leb, lt-ltb, ltb-false, ltb-true}
use Rattle.owl_lexer.specs.Tables.{are_classes_from, ascend_from, are_ascending, class_in}

-- the intervals end at or behind where they begin
ends_above : (first : ℕ) (xs : List (ℕ × ℕ)) (j : ℕ) (d : ℕ × ℕ) → ascend_from first xs ≡ true → j < length xs → first ≤ (get_or xs j d).0
ends_above first [] j d h lt = absurd (omega arith)
ends_above first (x ∷ xs) zero d h lt = leb-true first x.0 (and_parts (nat_le first x.0) (ascend_from x.0 xs) h).0
ends_above first (x ∷ xs) (suc j) d h lt =
    let parts = and_parts (nat_le first x.0) (ascend_from x.0 xs) h in
    let here = leb-true first x.0 parts.0 in
    let there = ends_above x.0 xs j d parts.1 (omega arith) in
    omega arith

ends_rise : (first : ℕ) (xs : List (ℕ × ℕ)) (i j : ℕ) (d : ℕ × ℕ) → ascend_from first xs ≡ true → i ≤ j → j < length xs → (get_or xs i d).0 ≤ (get_or xs j d).0
ends_rise first [] i j d h le lt = absurd (omega arith)
ends_rise first (x ∷ xs) zero zero d h le lt = omega arith
ends_rise first (x ∷ xs) zero (suc j) d h le lt = ends_above x.0 xs j d (and_parts (nat_le first x.0) (ascend_from x.0 xs) h).1 (omega arith)
ends_rise first (x ∷ xs) (suc i) zero d h le lt = absurd (omega arith)
ends_rise first (x ∷ xs) (suc i) (suc j) d h le lt = ends_rise x.0 xs i j d (and_parts (nat_le first x.0) (ascend_from x.0 xs) h).1 (omega arith) (omega arith)

-- those that end before a character stand in front
pub parted : (xs : List (ℕ × ℕ)) (c : ℕ) → are_ascending xs ≡ true → IsPartitionedBy (λ x. nat_lt x.0 c) xs
parted xs c h i j d le lt below =
    let rises = ends_rise 0 xs i j d h le lt in
    let less = ltb-true (get_or xs j d).0 c below in
    lt-ltb (get_or xs i d).0 c (omega arith)

pub class_at : (xs : List (ℕ × ℕ)) (others c place : ℕ) → IsPartitionPoint (λ x. nat_lt x.0 c ≡ true) (λ x. nat_lt x.0 c ≡ false) xs place → class_in xs others c ≡ (get_or xs place (0, others)).1
class_at [] others c place h = refl
class_at (x ∷ xs) others c zero h =
    let above = ltb-false x.0 c (h.1 0 x (omega arith) (omega arith)) in
    cond-true (nat_le c x.0) x.1 (class_in xs others c) (le-leb c x.0 above)
class_at (x ∷ xs) others c (suc place) h =
    let below = ltb-true x.0 c (h.0 0 x (omega arith) (omega arith)) in
    cond-false (nat_le c x.0) x.1 (class_in xs others c) (lt-leb c x.0 below)
    ∙ class_at xs others c place (λ k d le lt. h.0 (suc k) d (omega arith) (omega arith), λ k d le lt. h.1 (suc k) d (omega arith) (omega arith))

pub class_there : (first : ℕ) (xs : List (ℕ × ℕ)) (others : ℕ) (classes : List ℕ) (place d : ℕ) → are_classes_from first xs others classes ≡ true → place < length classes → get_or classes place d ≡ class_in xs others (first + place)
class_there first xs others [] place d h lt = absurd (omega arith)
class_there first xs others (class ∷ classes) zero d h lt =
    eqb-true class (class_in xs others first) (and_parts (class == class_in xs others first) (are_classes_from (first + 1) xs others classes) h).0
    ∙ ap (class_in xs others) (sym (add-zero first))
class_there first xs others (class ∷ classes) (suc place) d h lt =
    class_there (first + 1) xs others classes place d (and_parts (class == class_in xs others first) (are_classes_from (first + 1) xs others classes) h).1 (omega arith)
    ∙ ap (class_in xs others) (omega arith)
