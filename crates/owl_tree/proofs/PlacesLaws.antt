-- The row place by place says what the row says.
use Rattle.std.proofs.Common.{◌≡◌, refl, sym, ap, ◌∙◌, true, false, arith, length-drop, drop-cons, drop_of_length-le}
use Rattle.std.specs.Prelude.{ℕ, suc, Bool, ◌&&◌, ◌-◌, nat_eq, nat_le, min, List, [], ◌∷◌, length, get_or, drop, ◌<◌, ◌≤◌}
use Rattle.std.specs.List.{list_all}
use Rattle.std.proofs.Math.Bool.{and-true}
use Rattle.std.proofs.Math.Dec.{leb-suc-suc, leb-suc-zero}
use Rattle.std.proofs.lemmas.Bool.{le-leb}
use Rattle.owl_tree.specs.declared.tag.Tag.{Tag}
use Rattle.owl_tree.specs.declared.row.Sort.{Sort}
use Rattle.owl_tree.specs.declared.row.Rest.{Rest}
use Rattle.owl_tree.specs.declared.row.Rest.TheVariants.{Nothing, Optional, AtLeast, SomeThen, Set}
use Rattle.owl_tree.specs.Rows.{Row, Leaf, Node, admits, ends_in, fits, fits_front, fits_rest}
use Rattle.owl_tree.specs.Places.{admits_at, admits_from, counts, counts_rest, rest_admits}

-- where one sort is behind the front, all kids have to be of it
all_of_one : (rest : Rest) (sort : Sort) → ((later : ℕ) (t : Tag) → rest_admits rest later t ≡ admits sort t) → (place : ℕ) (ts : List Tag) → list_all (admits sort) ts ≡ admits_from (Node [] rest) place ts
all_of_one rest sort same place [] = refl
all_of_one rest sort same place (t ∷ ts) = rw (same (length ts) t, all_of_one rest sort same (suc place) ts) refl

some_then : (sort last : Sort) (place : ℕ) (t u : Tag) (ts : List Tag) → ends_in sort last (t ∷ u ∷ ts) ≡ admits_from (Node [] (SomeThen sort last)) place (t ∷ u ∷ ts)
some_then sort last place t u [] = ap (λ (b : Bool). admits sort t && b) (sym (and-true (admits last u)))
some_then sort last place t u (v ∷ ts) = ap (λ (b : Bool). admits sort t && b) (some_then sort last (suc place) u v ts)

-- what the tests of numbers say where a kid or two are there
none_counted : (n : ℕ) → nat_eq (suc n) 0 ≡ false
none_counted n = grind arith

two_counted : (n : ℕ) → nat_le (suc (suc n)) 1 ≡ false
two_counted n = grind arith

two_enough : (n : ℕ) → nat_le 2 (suc (suc n)) ≡ true
two_enough n = le-leb 2 (suc (suc n)) (omega arith)

none_in_front : (rest : Rest) (n : ℕ) → counts (Node [] rest) n ≡ counts_rest rest n
none_in_front rest n =
    let e : nat_le 0 n ≡ true = le-leb 0 n (omega arith) in
    let f : n - 0 ≡ n = omega arith in
    rw (e, f) refl

one_in_front : (sort : Sort) (front : List Sort) (rest : Rest) (n : ℕ) → counts (Node (sort ∷ front) rest) (suc n) ≡ counts (Node front rest) n
one_in_front sort front rest n =
    let e : nat_le (suc (length front)) (suc n) ≡ nat_le (length front) n = leb-suc-suc (length front) n in
    let f : suc n - suc (length front) ≡ n - length front = omega arith in
    rw (e, f) refl

rest_by_place : (rest : Rest) (place : ℕ) (ts : List Tag) → fits_rest rest ts ≡ (counts_rest rest (length ts) && admits_from (Node [] rest) place ts)
rest_by_place Nothing place [] = refl
rest_by_place Nothing place (t ∷ ts) = rw (none_counted (length ts)) refl
rest_by_place (Optional sort) place [] = refl
rest_by_place (Optional sort) place (t ∷ []) = sym (and-true (admits sort t))
rest_by_place (Optional sort) place (t ∷ u ∷ ts) = rw (two_counted (length ts)) refl
rest_by_place (AtLeast sort least) place ts = ap (λ (b : Bool). nat_le least (length ts) && b) (all_of_one (AtLeast sort least) sort (λ _ _. refl) place ts)
rest_by_place (SomeThen sort last) place [] = refl
rest_by_place (SomeThen sort last) place (t ∷ []) = refl
rest_by_place (SomeThen sort last) place (t ∷ u ∷ ts) = rw (two_enough (length ts)) (some_then sort last place t u ts)
rest_by_place (Set sort least) place ts = ap (λ (b : Bool). nat_le (min least 1) (length ts) && b) (all_of_one (Set sort least) sort (λ _ _. refl) place ts)

-- one sort less in front, one place less
one_place_on : (sort : Sort) (front : List Sort) (rest : Rest) (place : ℕ) (ts : List Tag) → admits_from (Node (sort ∷ front) rest) (suc place) ts ≡ admits_from (Node front rest) place ts
one_place_on sort front rest place [] = refl
one_place_on sort front rest place (t ∷ ts) = ap (λ (b : Bool). admits_at (Node front rest) place (length ts) t && b) (one_place_on sort front rest (suc place) ts)

turned : (a b c : Bool) → (a && (b && c)) ≡ (b && (a && c))
turned true b c = refl
turned false true c = refl
turned false false c = refl

front_by_place : (front : List Sort) (rest : Rest) (ts : List Tag) → fits_front front rest ts ≡ (counts (Node front rest) (length ts) && admits_from (Node front rest) 0 ts)
front_by_place [] rest ts = rw (none_in_front rest (length ts)) (rest_by_place rest 0 ts)
front_by_place (sort ∷ front) rest [] = rw (leb-suc-zero (length front)) refl
front_by_place (sort ∷ front) rest (t ∷ ts) =
    rw (one_in_front sort front rest (length ts), one_place_on sort front rest 0 ts, front_by_place front rest ts)
    (turned (admits sort t) (counts (Node front rest) (length ts)) (admits_from (Node front rest) 0 ts))

-- kids fit a row where they may be so many, and each may stand at its place
pub fits_by_place : (row : Row) (ts : List Tag) → fits row ts ≡ (counts row (length ts) && admits_from row 0 ts)
fits_by_place (Leaf sort) ts = refl
fits_by_place (Node front rest) ts = front_by_place front rest ts

-- the kids from a place on are the one at the place and those behind it, or none
module _ (row : Row) (ts : List Tag) (place : ℕ) where
  pub from_place : (t : Tag) → place < length ts → admits_from row place (drop place ts) ≡ (admits_at row place (length ts - place - 1) (get_or ts place t) && admits_from row (suc place) (drop (suc place) ts))
  from_place t inside =
      let f : length (drop (suc place) ts) ≡ length ts - place - 1 = length-drop (suc place) ts ∙ omega arith in
      ap (admits_from row place) (drop-cons ts place t inside) ∙ rw f refl

  pub misplaced : (t : Tag) → place < length ts → false ≡ admits_at row place (length ts - place - 1) (get_or ts place t) → admits_from row place (drop place ts) ≡ false
  misplaced t inside e = from_place t inside ∙ sym (ap (λ (b : Bool). b && admits_from row (suc place) (drop (suc place) ts)) e)

  pub from_end : length ts ≤ place → admits_from row place (drop place ts) ≡ true
  from_end end = ap (admits_from row place) (drop_of_length-le ts end)
