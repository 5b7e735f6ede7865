-- Kids by their places.
use Rattle.std.proofs.Common.{◌≡◌, ℕ, zero, suc, ◌-◌, ◌<◌, ◌≤◌, Bool, true, false, List, [], ◌∷◌, ◌++◌, length, drop, get_or, Option, None, Some, refl, sym, ap, subst, arith}
use Rattle.std.specs.Prelude.{slice_get}
use Rattle.std.specs.List.{AllByRecursion}
use Rattle.std.specs.Option.{option_to_list}
use Rattle.man_text.specs.Undecided.{turned}
use Rattle.owl_arena.specs.Held.{AreHeld}
use Rattle.owl_tree.specs.Rows.{Row}
use Rattle.owl_tree.specs.Trees.{Tree}
use Rattle.written_trees.specs.Written.{repeated}
use Rattle.written_trees.proofs.RepeatedLaws.{repeated_kept}
use Rattle.man_write.specs.Parts.{turned_if}

-- of kids and one that is behind them
pub there_front : (xs : List ℕ) (o : Option ℕ) (i x : ℕ) → i < length xs → x ≡ get_or xs i x → slice_get (xs ++ option_to_list o) i ≡ Some x
there_front [] o i x h e = absurd (omega (arith, h))
there_front (y ∷ ys) o zero x h e = ap Some (sym e)
there_front (y ∷ ys) o (suc i) x h e = there_front ys o i x (omega (arith, h)) e

pub there_last : (xs : List ℕ) (x : ℕ) → slice_get (xs ++ x ∷ []) (length xs) ≡ Some x
there_last [] x = refl
there_last (y ∷ ys) x = there_last ys x

pub all_there : (P : ℕ → Type 0) (xs : List ℕ) (i x : ℕ) → AllByRecursion P xs → slice_get xs i ≡ Some x → P x
all_there P [] i x h e = absurd (cc)
all_there P (y ∷ ys) zero x h e = let same : y ≡ x = cc in subst P same h.0
all_there P (y ∷ ys) (suc i) x h e = all_there P ys i x h.1 e

pub turned_length : {X : Type 0} (b : Bool) (xs : List X) → length (turned_if b xs) ≡ length xs
turned_length true [] = refl
turned_length true (x ∷ []) = refl
turned_length true (x ∷ y ∷ xs) = refl
turned_length false xs = refl

-- the first two stand the other way round
pub first_turned : (xs : List ℕ) → 2 ≤ length xs → slice_get (turned xs) 0 ≡ slice_get xs 1
first_turned [] h = absurd (omega (arith, h))
first_turned (x ∷ []) h = absurd (omega (arith, h))
first_turned (x ∷ y ∷ xs) h = refl

pub second_turned : (xs : List ℕ) → 2 ≤ length xs → slice_get (turned xs) 1 ≡ slice_get xs 0
second_turned [] h = absurd (omega (arith, h))
second_turned (x ∷ []) h = absurd (omega (arith, h))
second_turned (x ∷ y ∷ xs) h = refl

pub others_turned : (xs : List ℕ) (i : ℕ) → 2 ≤ i → slice_get (turned xs) i ≡ slice_get xs i
others_turned [] i h = refl
others_turned (x ∷ []) i h = refl
others_turned (x ∷ y ∷ xs) zero h = absurd (omega (arith, h))
others_turned (x ∷ y ∷ xs) (suc zero) h = absurd (omega (arith, h))
others_turned (x ∷ y ∷ xs) (suc (suc i)) h = refl

pub few_turned : (xs : List ℕ) → length xs < 2 → turned xs ≡ xs
few_turned [] h = refl
few_turned (x ∷ []) h = refl
few_turned (x ∷ y ∷ xs) h = absurd (omega (arith, h))

-- what holds of kids holds of the one that stands twice
all_append : (P : ℕ → Type 0) (xs : List ℕ) (o : Option ℕ) → AllByRecursion P xs → ((x : ℕ) → o ≡ Some x → P x) → AllByRecursion P (xs ++ option_to_list o)
all_append P [] None h k = tt
all_append P [] (Some x) h k = (k x refl, tt)
all_append P (y ∷ ys) o h k = (h.0, all_append P ys o h.1 k)

pub all_with : (id : ℕ) (row : Row) (xs : List ℕ) → AllByRecursion (λ kid. kid < id) xs → AllByRecursion (λ kid. kid < id) (xs ++ option_to_list (repeated row xs))
all_with id row xs h = all_append (λ kid. kid < id) xs (repeated row xs) h (λ x e. repeated_kept (λ kid. kid < id) row xs x e h)

-- of two lists
pub in_front : (xs ys : List ℕ) (i x : ℕ) → i < length xs → slice_get xs i ≡ Some x → slice_get (xs ++ ys) i ≡ Some x
in_front [] ys i x h e = absurd (omega (arith, h))
in_front (y ∷ xs) ys zero x h e = e
in_front (y ∷ xs) ys (suc i) x h e = in_front xs ys i x (omega (arith, h)) e

pub in_back : (xs ys : List ℕ) (i x : ℕ) → length xs ≤ i → slice_get ys (i - length xs) ≡ Some x → slice_get (xs ++ ys) i ≡ Some x
in_back [] ys i x h e = let same : i - 0 ≡ i = omega arith in subst (λ (j : ℕ). slice_get ys j ≡ Some x) same e
in_back (y ∷ xs) ys zero x h e = absurd (omega (arith, h))
in_back (y ∷ xs) ys (suc i) x h e =
    let same : suc i - length (y ∷ xs) ≡ i - length xs = omega arith in
    in_back xs ys i x (omega (arith, h)) (subst (λ (j : ℕ). slice_get ys j ≡ Some x) same e)

-- the ids behind some of them
pub dropped : (xs : List ℕ) (o : Option ℕ) (n : ℕ) → n ≤ length xs → drop n xs ++ option_to_list o ≡ drop n (xs ++ option_to_list o)
dropped xs o zero h = refl
dropped [] o (suc n) h = absurd (omega (arith, h))
dropped (x ∷ xs) o (suc n) h = dropped xs o n (omega (arith, h))

pub all_dropped : (xs : List ℕ) (n : ℕ) → length xs ≤ n → [] ≡ drop n xs
all_dropped [] zero h = refl
all_dropped [] (suc n) h = refl
all_dropped (x ∷ xs) zero h = absurd (omega (arith, h))
all_dropped (x ∷ xs) (suc n) h = all_dropped xs n (omega (arith, h))

-- numbers of trees that are there
pub held_there : (trees : List Tree) (ids : List ℕ) (i x : ℕ) → AreHeld trees ids → slice_get ids i ≡ Some x → x < length trees
held_there trees ids i x h e = all_there (λ id. id < length trees) ids i x h e

pub held_drop : (trees : List Tree) (ids : List ℕ) (n : ℕ) → AreHeld trees ids → AreHeld trees (drop n ids)
held_drop trees ids zero h = h
held_drop trees [] (suc n) h = tt
held_drop trees (x ∷ ids) (suc n) h = held_drop trees ids n h.1

pub held_below : (trees : List Tree) (ids : List ℕ) (id : ℕ) → id < length trees → AllByRecursion (λ kid. kid < id) ids → AreHeld trees ids
held_below trees [] id l h = tt
held_below trees (x ∷ ids) id l h = let first : x < id = h.0 in (omega (arith, l, first), held_below trees ids id l h.1)

pub held_both : (trees : List Tree) (xs ys : List ℕ) → AreHeld trees xs → AreHeld trees ys → AreHeld trees (xs ++ ys)
held_both trees [] ys h k = k
held_both trees (x ∷ xs) ys h k = (h.0, held_both trees xs ys h.1 k)
