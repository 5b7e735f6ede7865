-- Parts of a text that are added one behind another, and the limit of the text.
use Rattle.std.specs.Prelude.{map, slice_get}
use Rattle.std.specs.List.{AllByRecursion, flat_map}
use Rattle.std.proofs.Common.{Result, Err, Some, zero, suc, ◌+◌, ◌<◌, ◌≤◌, length, take, drop, get_or, subst, ◌≡◌, ℕ, List, [], ◌∷◌, ◌++◌, refl, sym, ap, ◌∙◌, arith}
use Rattle.std.specs.Result.{IsErrAnd}
use Rattle.std.specs.Str.{encode_utf8_all}
use Rattle.std.proofs.lemmas.Result.{err_from_is_err_and}
use Rattle.std.proofs.lemmas.List.{append_assoc, append-nil, take_more}
use Rattle.std.proofs.lemmas.Grind.{flat_map-append}
use Rattle.owl_characters.specs.Limit.{most_bytes}
use Rattle.owl_characters.specs.Utf8.{size}
use Rattle.owl_characters.proofs.Utf8Laws.{size_append, size_is}
use Rattle.owl_list.proofs.AscendingLaws.{all_pushed}
use Rattle.owl_writing.specs.Limits.{IsTooLong}

pub joined2 : (s p q a b : List ℕ) → a ≡ s ++ p → b ≡ a ++ q → b ≡ s ++ (p ++ q)
joined2 s p q a b e f = f ∙ ap (λ (x : List ℕ). x ++ q) e ∙ append_assoc s p q

pub joined3 : (s p q r a b c : List ℕ) → a ≡ s ++ p → b ≡ a ++ q → c ≡ b ++ r → c ≡ s ++ (p ++ (q ++ r))
joined3 s p q r a b c e f g = joined2 a q r b c f g ∙ ap (λ (x : List ℕ). x ++ (q ++ r)) e ∙ append_assoc s p (q ++ r)

-- what is too long stays so with more behind it
pub longer : (text more : List ℕ) → IsTooLong text → IsTooLong (text ++ more)
longer text more h = omega (arith, size_append text more)

-- a front that is too long
pub longer_by : (s p q : List ℕ) → IsTooLong (s ++ p) → IsTooLong (s ++ (p ++ q))
longer_by s p q h = omega (arith, size_append s p, size_append s (p ++ q), size_append p q)

pub longer_behind : (s p q a : List ℕ) → a ≡ s ++ p → IsTooLong (a ++ q) → IsTooLong (s ++ (p ++ q))
longer_behind s p q a e h = omega (arith, ap size e, size_append s p, size_append s (p ++ q), size_append p q, size_append a q)

-- the limit in bytes
pub too_long_in_bytes : (text : List ℕ) → IsTooLong text → most_bytes < length (encode_utf8_all text)
too_long_in_bytes text h = omega (arith, size_is text)

pub within_in_bytes : (text : List ℕ) → size text ≤ most_bytes → length (encode_utf8_all text) ≤ most_bytes
within_in_bytes text h = omega (arith, size_is text)

-- the error that a `?` passes on
pub passed_on : {T E : Type 0} (r : Result T E) (found wanted : E) → IsErrAnd r (λ y. y ≡ found) → r ≡ Err wanted → found ≡ wanted
passed_on r found wanted h e = let p = err_from_is_err_and r h in cc

-- the line at a place among the lines of all
module _ {X : Type 0} (line : X → List ℕ) where
  split_at : (xs : List X) (i : ℕ) (x : X) → i < length xs → x ≡ get_or xs i x → flat_map line xs ≡ flat_map line (take i xs) ++ (line x ++ flat_map line (drop (suc i) xs))
  split_at [] i x h e = absurd (omega arith)
  split_at (y ∷ ys) zero x h e = ap (λ (z : X). line z ++ flat_map line ys) (sym e)
  split_at (y ∷ ys) (suc i) x h e =
      ap (λ (z : List ℕ). line y ++ z) (split_at ys i x (omega arith) e) ∙ sym (append_assoc (line y) (flat_map line (take i ys)) (line x ++ flat_map line (drop (suc i) ys)))

  -- a front that is too long is one of a text that is
  pub too_long_at : (start now : List ℕ) (xs : List X) (i : ℕ) (x : X) → now ≡ start ++ flat_map line (take i xs) → i < length xs → x ≡ get_or xs i x → IsTooLong (now ++ line x) → IsTooLong (start ++ flat_map line xs)
  too_long_at start now xs i x e h is l =
      let whole = ap (λ (z : List ℕ). start ++ z) (split_at xs i x h is) in
      let here = longer_behind start (flat_map line (take i xs)) (line x) now e l in
      let back = longer_by start (flat_map line (take i xs) ++ line x) (flat_map line (drop (suc i) xs)) here in
      subst IsTooLong (ap (λ (z : List ℕ). start ++ z) (append_assoc (flat_map line (take i xs)) (line x) (flat_map line (drop (suc i) xs))) ∙ sym whole) back

pub flat_of_map : {X Y Z : Type 0} (f : X → Y) (g : Y → List Z) (xs : List X) → flat_map g (map f xs) ≡ flat_map (λ (x : X). g (f x)) xs
flat_of_map f g [] = refl
flat_of_map {Z = Z} f g (x ∷ xs) = ap (λ (z : List Z). g (f x) ++ z) (flat_of_map f g xs)

-- what stands at a place
pub stands_at : {X : Type 0} (xs : List X) (i : ℕ) (x : X) → slice_get xs i ≡ Some x → x ≡ get_or xs i x
stands_at [] i x e = absurd (cc)
stands_at (y ∷ ys) zero x e = cc
stands_at (y ∷ ys) (suc i) x e = stands_at ys i x e

pub taken_one : {X : Type 0} (xs : List X) (i : ℕ) (x : X) → i < length xs → x ≡ get_or xs i x → take (i + 1) xs ≡ take i xs ++ x ∷ []
taken_one xs i x h e = take_more xs i x h ∙ ap (λ (y : _). take i xs ++ y ∷ []) (sym e)

flat_one : {X : Type 0} (line : X → List ℕ) (xs : List X) (x : X) → flat_map line (xs ++ x ∷ []) ≡ flat_map line xs ++ line x
flat_one line xs x = flat_map-append line xs (x ∷ []) ∙ ap (λ (z : List ℕ). flat_map line xs ++ z) (append-nil (line x))

-- one line more
pub line_more : {X : Type 0} (line : X → List ℕ) (start now after : List ℕ) (xs : List X) (i : ℕ) (x : X) → now ≡ start ++ flat_map line (take i xs) → i < length xs → x ≡ get_or xs i x → after ≡ now ++ line x → after ≡ start ++ flat_map line (take (i + 1) xs)
line_more line start now after xs i x e h is f =
    joined2 start (flat_map line (take i xs)) (line x) now after e f
    ∙ ap (λ (z : List ℕ). start ++ z) (sym (flat_one line (take i xs) x) ∙ ap (flat_map line) (sym (taken_one xs i x h is)))

pub all_more : {X : Type 0} (P : X → Type 0) (xs : List X) (i : ℕ) (x : X) → AllByRecursion P (take i xs) → i < length xs → x ≡ get_or xs i x → P x → AllByRecursion P (take (i + 1) xs)
all_more P xs i x h l is k = subst (AllByRecursion P) (sym (taken_one xs i x l is)) (all_pushed P (take i xs) x h k)
