-- Two ways to cut a list: at the first character that fails a test, or behind a front.
use Rattle.std.proofs.Common.{◌≡◌, ◌⊎◌, inl, inr, ℕ, ◌≤◌, Bool, true, false, List, [], ◌∷◌, ◌++◌, length, refl, sym, ap, ◌∙◌, arith, zero-le, suc-le-suc}
use Rattle.std.proofs.lemmas.Bool.{false≢true}
use Rattle.owl_characters.specs.Iri.{AllAre}

-- the test has two answers for one character
pub both : (p : ℕ → Bool) (c d : ℕ) → c ≡ d → p c ≡ true → p d ≡ false → ⊥
both p c d e t f = false≢true (sym f ∙ ap p (sym e) ∙ t)

-- lists that begin apart are not the same
pub heads : (p : ℕ → Bool) (c d : ℕ) (xs ys : List ℕ) → p c ≡ true → p d ≡ false → c ∷ xs ≡ d ∷ ys → ⊥
heads p c d xs ys t f e = both p c d (cc) t f

-- the lists up to the first that fails, that character, and the rest are the same
pub record SameCut (xs ys : List ℕ) (c d : ℕ) (a b : List ℕ) : Type 0 where
  pub front : xs ≡ ys
  pub fails : c ≡ d
  pub rest : a ≡ b

pub same_cut : (p : ℕ → Bool) (xs ys : List ℕ) (c d : ℕ) (a b : List ℕ) → AllAre p xs → AllAre p ys → p c ≡ false → p d ≡ false → xs ++ c ∷ a ≡ ys ++ d ∷ b → SameCut xs ys c d a b
same_cut p [] [] c d a b hx hy fc fd e = record { front = refl; fails = cc; rest = cc }
same_cut p [] (y ∷ ys) c d a b hx hy fc fd e = absurd (both p y c (cc) hy.0 fc)
same_cut p (x ∷ xs) [] c d a b hx hy fc fd e = absurd (both p x d (cc) hx.0 fd)
same_cut p (x ∷ xs) (y ∷ ys) c d a b hx hy fc fd e =
    let s = same_cut p xs ys c d a b hx.1 hy.1 fc fd (cc) in
    let h : x ≡ y = cc in
    record { front = cc; fails = s.fails; rest = s.rest }

-- among characters that pass there is none that fails
pub found : (p : ℕ → Bool) (xs : List ℕ) (c : ℕ) (a bytes : List ℕ) → AllAre p bytes → p c ≡ false → bytes ≡ xs ++ c ∷ a → ⊥
found p [] c a [] h f e = cc
found p (x ∷ xs) c a [] h f e = cc
found p [] c a (b ∷ bs) h f e = both p b c (cc) h.0 f
found p (x ∷ xs) c a (b ∷ bs) h f e = found p xs c a bs h.1 f (cc)

-- a front of characters that pass is no longer than the longest
pub front_within : (p : ℕ → Bool) (xs ys : List ℕ) (c : ℕ) (a b : List ℕ) → AllAre p ys → p c ≡ false → xs ++ c ∷ a ≡ ys ++ b → length ys ≤ length xs
front_within p xs [] c a b hy fc e = zero-le
front_within p [] (y ∷ ys) c a b hy fc e = absurd (both p y c (cc) hy.0 fc)
front_within p (x ∷ xs) (y ∷ ys) c a b hy fc e = suc-le-suc (front_within p xs ys c a b hy.1 fc (cc))

-- two fronts of one list that are as long are the same, and so are the rests
pub record SameSeam (xs ys a b : List ℕ) : Type 0 where
  pub front : xs ≡ ys
  pub rest : a ≡ b

pub same_seam : (xs ys a b : List ℕ) → length xs ≤ length ys → length ys ≤ length xs → xs ++ a ≡ ys ++ b → SameSeam xs ys a b
same_seam [] [] a b h k e = record { front = refl; rest = e }
same_seam [] (y ∷ ys) a b h k e = absurd (omega arith)
same_seam (x ∷ xs) [] a b h k e = absurd (omega arith)
same_seam (x ∷ xs) (y ∷ ys) a b h k e =
    let s = same_seam xs ys a b (omega arith) (omega arith) cc in
    let h : x ≡ y = cc in
    record { front = cc; rest = s.rest }

-- the second front of one list is longer
pub record Overhang (xs ys a b : List ℕ) : Type 0 where
  pub next : ℕ
  pub others : List ℕ
  pub is : ys ≡ xs ++ next ∷ others
  pub rest : a ≡ next ∷ (others ++ b)

pub overhang_or_within : (xs ys a b : List ℕ) → xs ++ a ≡ ys ++ b → (length ys ≤ length xs) ⊎ Overhang xs ys a b
overhang_or_within xs [] a b e = inl zero-le
overhang_or_within [] (y ∷ ys) a b e = inr (record { next = y; others = ys; is = refl; rest = e })
overhang_or_within (x ∷ xs) (y ∷ ys) a b e =
    let first : x ≡ y = cc in
    elim (overhang_or_within xs ys a b (cc)) [
      | inl h ↦ inl (suc-le-suc h)
      | inr o ↦
          let e2 : ys ≡ xs ++ o.next ∷ o.others = o.is in
          let e3 : y ∷ ys ≡ x ∷ (xs ++ o.next ∷ o.others) = cc in
          inr (record { next = o.next; others = o.others; is = e3; rest = o.rest })
    ]
