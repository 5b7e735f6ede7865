-- What was read of a document, piece by piece: a place, what stands there, and its parts.
use base.Stored.{coded_via}
use Rattle.std.specs.Coded.{Coded, coded_list, coded_option, coded_ℕ, coded×}
use denote.Param.Weighed.{most}
use Rattle.std.proofs.Common.{ap, arith, refl}
use Rattle.std.specs.Prelude.{◌≡◌, ◌≤◌, ℕ, ◌+◌, List, [], ◌∷◌, Option, None, Some}
use Rattle.man_raw.specs.contracts.form.What as what
use Rattle.man_raw.specs.declared.form.What.{What}

mutual
  -- the byte at which its first token begins, what it is, and its parts
  pub data RawTree : Type 0 where
    raw : ℕ → What → RawTrees → RawTree

  pub data RawTrees : Type 0 where
    none : RawTrees
    more : RawTree → RawTrees → RawTrees

abbrev pub trees_of : List RawTree → RawTrees
trees_of [] = none
trees_of (t ∷ ts) = more t (trees_of ts)

abbrev pub list_of : RawTrees → List RawTree
list_of none = []
list_of (more t ts) = t ∷ list_of ts

abbrev pub place_of : RawTree → ℕ
place_of (raw at w ts) = at

-- the number of its pieces
abbrev mutual
  pub weight : RawTree → ℕ
  weight (raw at w ts) = sum_weight ts + 1

  pub sum_weight : RawTrees → ℕ
  sum_weight none = 0
  sum_weight (more t ts) = weight t + sum_weight ts

-- ---- how a piece is stored

abbrev pub Letter : Type 0
Letter = Option (ℕ × What)

-- A piece as a word, in front of more: a letter for each piece, and one behind its parts.
abbrev mutual
  pub word : RawTree → List Letter → List Letter
  word (raw at w ts) rest = Some (at, w) ∷ words ts rest

  pub words : RawTrees → List Letter → List Letter
  words none rest = None ∷ rest
  words (more t ts) rest = word t (words ts rest)

first_letter : {x y : ℕ × What} {xs ys : List Letter} → Some x ∷ xs ≡ Some y ∷ ys → x ≡ y
first_letter e = cc

other_letters : {x y : Letter} {xs ys : List Letter} → x ∷ xs ≡ y ∷ ys → xs ≡ ys
other_letters e = cc

mutual
  parts_of_word : (a b : RawTree) (x y : List Letter) → word a x ≡ word b y → (a ≡ b) × (x ≡ y)
  parts_of_word (raw at w ts) (raw bt v us) x y e =
      let first = first_letter e in
      let places : at ≡ bt = ap (λ (p : ℕ × What). p.0) first in
      let whats : w ≡ v = ap (λ (p : ℕ × What). p.1) first in
      let rest = parts_of_words ts us x y (other_letters e) in
      ((λ i. raw (places i) (whats i) (rest.0 i)), rest.1)

  parts_of_words : (ts us : RawTrees) (x y : List Letter) → words ts x ≡ words us y → (ts ≡ us) × (x ≡ y)
  parts_of_words none none x y e = (refl, other_letters e)
  parts_of_words none (more (raw at w us) vs) x y e = absurd (cc)
  parts_of_words (more (raw at w ts) vs) none x y e = absurd (cc)
  parts_of_words (more t ts) (more u us) x y e =
      let first = parts_of_word t u (words ts x) (words us y) e in
      let rest = parts_of_words ts us x y first.1 in
      ((λ i. more (first.0 i) (rest.0 i)), rest.1)

pub same_word : (a b : RawTree) → word a [] ≡ word b [] → a ≡ b
same_word a b e = (parts_of_word a b [] [] e).0

abbrev pub coded_raw : Coded RawTree
coded_raw = coded_via (coded_list (coded_option (coded× coded_ℕ what.the_row.coded))) (λ t. word t []) same_word

-- no part is heavier than all of them together
pub most_weight : (ts : List RawTree) → most (λ t. weight t + 1) ts ≤ sum_weight (trees_of ts) + 1
most_weight [] = omega arith
most_weight (t ∷ ts) = omega (arith, most_weight ts)
