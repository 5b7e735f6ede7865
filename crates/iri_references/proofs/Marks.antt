-- Lists that are cut at a mark.
use Rattle.std.proofs.Common.{◌≡◌, ℕ, ◌+◌, ◌-◌, Bool, true, false, not, List, [], ◌∷◌, ◌++◌, Some, None, inl, inr, cond, refl, sym, ap, ◌∙◌, take, drop, length, length-append, append_assoc, arith}
use Rattle.std.specs.Prelude.{◌==◌, ◌||◌, reverse, unwrap_or}
use mathlib.Core.List.{reverse_aux}
use Rattle.std.specs.List.{after_first, before_last, list_any, position_or_len, slice_split, onto_first, suffix_len}
use Rattle.std.proofs.lemmas.Bool.{cases_Bool, eq-eqb, eqb-true, not-true, not_from_false, or_from, or_right}
use Rattle.std.proofs.lemmas.List.{drop-drop, drop_all, drop_at, length-reverse, reverse-append, take_all, take_at}
use Rattle.std.proofs.lemmas.List.Splits.{slice_split-cons_no, slice_split-cons_yes}
use Rattle.owl_characters.specs.Iri.{AllAre}
use Rattle.iri_references.specs.References.{before, behind, from_mark}

-- no character passes the test
abbrev pub NoneAre : (ℕ → Bool) → List ℕ → Type 0
NoneAre test cs = AllAre (λ c. not (test c)) cs

-- where the first character stands that passes
position_cut : (p : ℕ → Bool) (xs : List ℕ) (y : ℕ) (ys : List ℕ) → NoneAre p xs → p y ≡ true → position_or_len p (xs ++ y ∷ ys) ≡ length xs
position_cut p [] y ys h t = ap (λ b. cond (not b) (1 + position_or_len p ys) 0) t
position_cut p (x ∷ xs) y ys h t =
    let more : 1 + length xs ≡ length (x ∷ xs) = omega arith in
    ap (λ b. cond b (1 + position_or_len p (xs ++ y ∷ ys)) 0) h.0 ∙ ap (λ n. 1 + n) (position_cut p xs y ys h.1 t) ∙ more

position_none : (p : ℕ → Bool) (xs : List ℕ) → NoneAre p xs → position_or_len p xs ≡ length xs
position_none p [] h = refl
position_none p (x ∷ xs) h =
    let more : 1 + length xs ≡ length (x ∷ xs) = omega arith in
    ap (λ b. cond b (1 + position_or_len p xs) 0) h.0 ∙ ap (λ n. 1 + n) (position_none p xs h.1) ∙ more

pub any_cut : (p : ℕ → Bool) (xs : List ℕ) (y : ℕ) (ys : List ℕ) → p y ≡ true → list_any p (xs ++ y ∷ ys) ≡ true
any_cut p [] y ys t = ap (λ b. b || list_any p ys) t
any_cut p (x ∷ xs) y ys t = or_right (p x) (list_any p (xs ++ y ∷ ys)) (any_cut p xs y ys t)

pub any_none : (p : ℕ → Bool) (xs : List ℕ) → NoneAre p xs → list_any p xs ≡ false
any_none p [] h = refl
any_none p (x ∷ xs) h = or_from (p x) (list_any p xs) (not-true (p x) h.0) (any_none p xs h.1)

-- a list that is cut at its first mark
pub record IsCut (mark : ℕ) (cs xs ys : List ℕ) : Type 0 where
  pub front : before mark cs ≡ xs
  pub back : behind mark cs ≡ Some ys
  pub after : after_first (λ c. c == mark) cs ≡ ys
  pub rest : from_mark mark cs ≡ mark ∷ ys
  pub any : list_any (λ c. c == mark) cs ≡ true

pub at_mark : (mark : ℕ) (cs xs ys : List ℕ) → cs ≡ xs ++ mark ∷ ys → NoneAre (λ c. c == mark) xs → IsCut mark cs xs ys
at_mark mark cs xs ys e fresh =
    let p : ℕ → Bool = λ c. c == mark in
    let is : p mark ≡ true = eq-eqb mark mark refl in
    let place : position_or_len p cs ≡ length xs = ap (position_or_len p) e ∙ position_cut p xs mark ys fresh is in
    let any : list_any p cs ≡ true = ap (list_any p) e ∙ any_cut p xs mark ys is in
    let rest : drop (position_or_len p cs) cs ≡ mark ∷ ys = ap (λ n. drop n cs) place ∙ ap (drop (length xs)) e ∙ drop_at xs (mark ∷ ys) (length xs) refl in
    let after : after_first p cs ≡ ys = sym (drop-drop 1 (position_or_len p cs) cs) ∙ ap (drop 1) rest in
    record {
      front = ap (λ n. take n cs) place ∙ ap (take (length xs)) e ∙ take_at xs (mark ∷ ys) (length xs) refl;
      back = ap (λ b. cond b (Some (after_first p cs)) None) any ∙ ap (λ x. Some x) after;
      after = after;
      rest = rest;
      any = any;
    }

-- a list without the mark
pub record IsUncut (mark : ℕ) (cs : List ℕ) : Type 0 where
  pub front : before mark cs ≡ cs
  pub back : behind mark cs ≡ None
  pub after : after_first (λ c. c == mark) cs ≡ []
  pub rest : from_mark mark cs ≡ []
  pub any : list_any (λ c. c == mark) cs ≡ false

pub without_mark : (mark : ℕ) (cs : List ℕ) → NoneAre (λ c. c == mark) cs → IsUncut mark cs
without_mark mark cs fresh =
    let p : ℕ → Bool = λ c. c == mark in
    let place : position_or_len p cs ≡ length cs = position_none p cs fresh in
    let any : list_any p cs ≡ false = any_none p cs fresh in
    record {
      front = ap (λ n. take n cs) place ∙ take_all (length cs) cs (omega arith);
      back = ap (λ b. cond b (Some (after_first p cs)) None) any;
      after = ap (λ n. drop (n + 1) cs) place ∙ drop_all (length cs + 1) cs (omega arith);
      rest = ap (λ n. drop n cs) place ∙ drop_all (length cs) cs (omega arith);
      any = any;
    }

-- each list has its first mark somewhere, or nowhere
pub data FirstMark (mark : ℕ) (cs : List ℕ) : Type 0 where
  nowhere : NoneAre (λ c. c == mark) cs → FirstMark mark cs
  between : (xs ys : List ℕ) → cs ≡ xs ++ mark ∷ ys → NoneAre (λ c. c == mark) xs → FirstMark mark cs

first_mark_behind : (mark c : ℕ) (cs : List ℕ) → (c == mark) ≡ false → FirstMark mark cs → FirstMark mark (c ∷ cs)
first_mark_behind mark c cs other (nowhere fresh) = nowhere (not_from_false (c == mark) other, fresh)
first_mark_behind mark c cs other (between xs ys e fresh) = between (c ∷ xs) ys (ap (λ x. c ∷ x) e) (not_from_false (c == mark) other, fresh)

pub first_mark : (mark : ℕ) (cs : List ℕ) → FirstMark mark cs
first_mark mark [] = nowhere tt
first_mark mark (c ∷ cs) = elim (cases_Bool (c == mark)) [
  | inl same ↦ between [] cs (ap (λ x. x ∷ cs) (eqb-true c mark same)) tt
  | inr other ↦ first_mark_behind mark c cs other (first_mark mark cs)
]

-- the parts of a list that is split at a test
pub split_cut : (p : ℕ → Bool) (xs : List ℕ) (y : ℕ) (ys : List ℕ) → NoneAre p xs → p y ≡ true → slice_split p (xs ++ y ∷ ys) ≡ xs ∷ slice_split p ys
split_cut p [] y ys h t = slice_split-cons_yes p y ys t
split_cut p (x ∷ xs) y ys h t = slice_split-cons_no p x (xs ++ y ∷ ys) (not-true (p x) h.0) ∙ ap (onto_first x) (split_cut p xs y ys h.1 t)

pub split_none : (p : ℕ → Bool) (xs : List ℕ) → NoneAre p xs → slice_split p xs ≡ xs ∷ []
split_none p [] h = refl
split_none p (x ∷ xs) h = slice_split-cons_no p x xs (not-true (p x) h.0) ∙ ap (onto_first x) (split_none p xs h.1)

-- the last character that passes
all_reverse : (p : ℕ → Bool) (xs ys : List ℕ) → AllAre p xs → AllAre p ys → AllAre p (reverse_aux xs ys)
all_reverse p [] ys h k = k
all_reverse p (x ∷ xs) ys h k = all_reverse p xs (x ∷ ys) h.1 (h.0, k)

pub before_last_cut : (p : ℕ → Bool) (cs xs : List ℕ) (y : ℕ) (ys : List ℕ) → cs ≡ xs ++ y ∷ ys → p y ≡ true → NoneAre p ys → before_last p cs ≡ xs
before_last_cut p cs xs y ys e t fresh =
    let turned : reverse (xs ++ y ∷ ys) ≡ reverse ys ++ y ∷ reverse xs = reverse-append xs (y ∷ ys) ∙ ap (λ x. x ++ reverse xs) (reverse-append (y ∷ []) ys) ∙ append_assoc (reverse ys) (y ∷ []) (reverse xs) in
    let after : suffix_len (λ x. not (p x)) cs ≡ length ys =
    ap (λ x. position_or_len p (reverse x)) e
    ∙ ap (position_or_len p) turned
    ∙ position_cut p (reverse ys) y (reverse xs) (all_reverse (λ c. not (p c)) ys [] fresh tt) t
    ∙ length-reverse ys in
    let size : length cs ≡ length xs + length (y ∷ ys) = ap (λ (x : List ℕ). length x) e ∙ length-append xs (y ∷ ys) in
    let place : length cs - suffix_len (λ x. not (p x)) cs - 1 ≡ length xs = omega arith in
    ap (λ n. take n cs) place ∙ ap (take (length xs)) e ∙ take_at xs (y ∷ ys) (length xs) refl

pub before_last_none : (p : ℕ → Bool) (cs : List ℕ) → NoneAre p cs → before_last p cs ≡ []
before_last_none p cs fresh =
    let after : suffix_len (λ x. not (p x)) cs ≡ length cs = position_none p (reverse cs) (all_reverse (λ c. not (p c)) cs [] fresh tt) ∙ length-reverse cs in
    let place : length cs - suffix_len (λ x. not (p x)) cs - 1 ≡ 0 = omega arith in
    ap (λ n. take n cs) place

-- what stands behind the first mark, or nothing where there is none
after_by : (mark : ℕ) (cs : List ℕ) → FirstMark mark cs → after_first (λ c. c == mark) cs ≡ unwrap_or (behind mark cs) []
after_by mark cs (nowhere fresh) = let un = without_mark mark cs fresh in un.after ∙ sym (ap (λ o. unwrap_or o []) un.back)
after_by mark cs (between xs ys e fresh) = let cut = at_mark mark cs xs ys e fresh in cut.after ∙ sym (ap (λ o. unwrap_or o []) cut.back)

pub after_is : (mark : ℕ) (cs : List ℕ) → after_first (λ c. c == mark) cs ≡ unwrap_or (behind mark cs) []
after_is mark cs = after_by mark cs (first_mark mark cs)
