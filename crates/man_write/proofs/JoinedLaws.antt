-- Parts that are added with words around them.
use Rattle.std.proofs.Common.{◌≡◌, ℕ, zero, suc, ◌+◌, ◌<◌, ◌≤◌, List, [], ◌∷◌, ◌++◌, length, map, take, drop, Some, refl, sym, ap, ◌∙◌, subst, arith}
use Rattle.std.specs.Prelude.{slice_get}
use Rattle.std.proofs.lemmas.List.{append-nil, append_assoc, take_all}
use Rattle.man_text.specs.Words.{Words}
use Rattle.owl_writing.specs.Limits.{IsTooLong}
use Rattle.owl_writing.proofs.DraftLaws.{joined2, longer_behind, longer_by}
use Rattle.man_write.specs.Parts.{form_text, gap, joined_from}

module _ (w : Words) (f : ℕ → List ℕ) where
  -- the parts up to a place, and one more
  grows : (n m : ℕ) (xs : List ℕ) (i x : ℕ) → m ≡ n + i → slice_get xs i ≡ Some x → joined_from w n (map f (take (suc i) xs)) ≡ joined_from w n (map f (take i xs)) ++ (gap w m ++ f x)
  grows n m [] i x e h = absurd (cc)
  grows n m (y ∷ ys) zero x e h =
      let same : y ≡ x = cc in
      let here : n ≡ m = omega (arith, e) in
      append-nil (gap w n ++ f y) ∙ ap (λ (z : ℕ). gap w n ++ f z) same ∙ ap (λ (k : ℕ). gap w k ++ f x) here
  grows n m (y ∷ ys) (suc i) x e h =
      ap (λ (z : List ℕ). (gap w n ++ f y) ++ z) (grows (suc n) m ys i x (omega (arith, e)) h)
      ∙ sym (append_assoc (gap w n ++ f y) (joined_from w (suc n) (map f (take i ys))) (gap w m ++ f x))

  -- and those behind it
  splits : (n m : ℕ) (xs : List ℕ) (i x : ℕ) → m ≡ n + i → slice_get xs i ≡ Some x
      → joined_from w n (map f xs) ≡ joined_from w n (map f (take i xs)) ++ ((gap w m ++ f x) ++ joined_from w (suc m) (map f (drop (suc i) xs)))
  splits n m [] i x e h = absurd (cc)
  splits n m (y ∷ ys) zero x e h =
      let same : y ≡ x = cc in
      let here : n ≡ m = omega (arith, e) in
      ap (λ (z : ℕ). (gap w n ++ f z) ++ joined_from w (suc n) (map f ys)) same ∙ ap (λ (k : ℕ). (gap w k ++ f x) ++ joined_from w (suc k) (map f ys)) here
  splits n m (y ∷ ys) (suc i) x e h =
      ap (λ (z : List ℕ). (gap w n ++ f y) ++ z) (splits (suc n) m ys i x (omega (arith, e)) h)
      ∙ sym (append_assoc (gap w n ++ f y) (joined_from w (suc n) (map f (take i ys))) ((gap w m ++ f x) ++ joined_from w (suc m) (map f (drop (suc i) ys))))

  module _ (start : List ℕ) where
    abbrev pub AreJoined : List ℕ → ℕ → List ℕ → Type 0
    AreJoined xs i now = now ≡ start ++ joined_from w 0 (map f (take i xs))

    pub joined_none : (xs : List ℕ) → AreJoined xs 0 start
    joined_none xs = sym (append-nil start)

    pub joined_more : (xs : List ℕ) (i x : ℕ) (now later : List ℕ) → AreJoined xs i now → slice_get xs i ≡ Some x → later ≡ now ++ (gap w i ++ f x) → AreJoined xs (i + 1) later
    joined_more xs i x now later h is g =
        let next : suc i ≡ i + 1 = omega arith in
        joined2 start (joined_from w 0 (map f (take i xs))) (gap w i ++ f x) now later h g
        ∙ ap (λ (z : List ℕ). start ++ z) (sym (grows 0 i xs i x (omega arith) is) ∙ ap (λ (k : ℕ). joined_from w 0 (map f (take k xs))) next)

    pub joined_all : (xs : List ℕ) (i : ℕ) (now : List ℕ) → AreJoined xs i now → length xs ≤ i → now ≡ start ++ joined_from w 0 (map f xs)
    joined_all xs i now h l = h ∙ ap (λ (ys : List ℕ). start ++ joined_from w 0 (map f ys)) (take_all i xs l)

    pub joined_too_long : (xs : List ℕ) (i x : ℕ) (now : List ℕ) → AreJoined xs i now → slice_get xs i ≡ Some x → IsTooLong (now ++ (gap w i ++ f x)) → IsTooLong (start ++ joined_from w 0 (map f xs))
    joined_too_long xs i x now h is l =
        let front = joined_from w 0 (map f (take i xs)) in
        let part = gap w i ++ f x in
        let rest = joined_from w (suc i) (map f (drop (suc i) xs)) in
        let here = longer_behind start front part now h l in
        let more = longer_by start (front ++ part) rest here in
        subst (λ (z : List ℕ). IsTooLong (start ++ z)) (append_assoc front part rest ∙ sym (splits 0 i xs i x (omega arith) is)) more

-- what is written of some parts
pub some_text : (w : Words) (ts : List (List ℕ)) → 0 < length ts → form_text w ts ≡ w.front ++ (joined_from w 0 ts ++ w.last)
some_text w [] h = absurd (omega (arith, h))
some_text w (t ∷ ts) h = refl

pub no_text : (w : Words) (ts : List (List ℕ)) → length ts ≤ 0 → form_text w ts ≡ []
no_text w [] h = refl
no_text w (t ∷ ts) h = absurd (omega (arith, h))
