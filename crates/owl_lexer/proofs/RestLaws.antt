-- A pattern matches a character and others behind it exactly where one of its rests matches the others.
use Rattle.std.proofs.Common.{◌≡◌, ◌⊎◌, inl, inr, ℕ, Bool, true, false, List, [], ◌∷◌, ◌++◌, refl, sym, ap, ◌∙◌, subst, if◌then◌else◌}
use Rattle.std.proofs.lemmas.Bool.{and_from, and_parts, or_cases, or_left, or_right}
use Rattle.owl_lexer.specs.Patterns.{Joins, Matches, Pattern}
use Rattle.owl_lexer.specs.Patterns.Pattern.{empty, one, both, either, many}
use Rattle.owl_lexer.proofs.Rests.{MatchesOne, is_nullable, join, join_each, rests}

-- no characters at all

none_of_none : (xs ys : List ℕ) → [] ≡ xs ++ ys → ([] ≡ xs) × ([] ≡ ys)
none_of_none [] ys e = (refl, e)
none_of_none (x ∷ xs) ys e = absurd (cc)

pub nullable_of : (test : ℕ → ℕ → Bool) (p : Pattern) → Matches test p [] → is_nullable p ≡ true
nullable_of test empty m = refl
nullable_of test (one set) m = let e = m.2 in cc
nullable_of test (both p q) m =
    let parts = none_of_none m.0 m.1 m.4 in
    and_from (is_nullable p) (is_nullable q) (nullable_of test p (subst (Matches test p) (sym parts.0) m.2)) (nullable_of test q (subst (Matches test q) (sym parts.1) m.3))
nullable_of test (either p q) (inl m) = or_left (is_nullable p) (is_nullable q) (nullable_of test p m)
nullable_of test (either p q) (inr m) = or_right (is_nullable p) (is_nullable q) (nullable_of test q m)
nullable_of test (many p) m = refl

pub matches_nothing : (test : ℕ → ℕ → Bool) (p : Pattern) → is_nullable p ≡ true → Matches test p []
matches_nothing test empty h = refl
matches_nothing test (one set) h = absurd (cc)
matches_nothing test (both p q) h =
    let parts = and_parts (is_nullable p) (is_nullable q) h in
    ([], [], matches_nothing test p parts.0, matches_nothing test q parts.1, refl)
matches_nothing test (either p q) h = elim (or_cases (is_nullable p) (is_nullable q) h) [
  | inl x ↦ inl (matches_nothing test p x)
  | inr x ↦ inr (matches_nothing test q x)
]
matches_nothing test (many p) h = ([], refl)

-- one of several patterns

pub one_left : (test : ℕ → ℕ → Bool) (ps qs : List Pattern) (cs : List ℕ) → MatchesOne test ps cs → MatchesOne test (ps ++ qs) cs
one_left test [] qs cs m = elim m [ ]
one_left test (p ∷ ps) qs cs (inl m) = inl m
one_left test (p ∷ ps) qs cs (inr m) = inr (one_left test ps qs cs m)

pub one_right : (test : ℕ → ℕ → Bool) (ps qs : List Pattern) (cs : List ℕ) → MatchesOne test qs cs → MatchesOne test (ps ++ qs) cs
one_right test [] qs cs m = m
one_right test (p ∷ ps) qs cs m = inr (one_right test ps qs cs m)

pub one_of_both : (test : ℕ → ℕ → Bool) (ps qs : List Pattern) (cs : List ℕ) → MatchesOne test (ps ++ qs) cs → MatchesOne test ps cs ⊎ MatchesOne test qs cs
one_of_both test [] qs cs m = inr m
one_of_both test (p ∷ ps) qs cs (inl m) = inl (inl m)
one_of_both test (p ∷ ps) qs cs (inr m) = elim (one_of_both test ps qs cs m) [ inl x ↦ inl (inr x) | inr x ↦ inr x ]

-- one pattern and then another

join_matches : (test : ℕ → ℕ → Bool) (p q : Pattern) (front back : List ℕ) → Matches test p front → Matches test q back → Matches test (join p q) (front ++ back)
join_matches test empty q front back m n = subst (λ (l : List ℕ). Matches test q (l ++ back)) (sym m) n
join_matches test (one set) q front back m n = (front, back, m, n, refl)
join_matches test (both a b) q front back m n = (front, back, m, n, refl)
join_matches test (either a b) q front back m n = (front, back, m, n, refl)
join_matches test (many a) q front back m n = (front, back, m, n, refl)

matches_join : (test : ℕ → ℕ → Bool) (p q : Pattern) (cs : List ℕ) → Matches test (join p q) cs → Matches test (both p q) cs
matches_join test empty q cs m = ([], cs, refl, m, refl)
matches_join test (one set) q cs m = m
matches_join test (both a b) q cs m = m
matches_join test (either a b) q cs m = m
matches_join test (many a) q cs m = m

join_each_matches : (test : ℕ → ℕ → Bool) (ps : List Pattern) (q : Pattern) (front back : List ℕ) → MatchesOne test ps front → Matches test q back → MatchesOne test (join_each ps q) (front ++ back)
join_each_matches test [] q front back m n = elim m [ ]
join_each_matches test (p ∷ ps) q front back (inl m) n = inl (join_matches test p q front back m n)
join_each_matches test (p ∷ ps) q front back (inr m) n = inr (join_each_matches test ps q front back m n)

record Parted (test : ℕ → ℕ → Bool) (ps : List Pattern) (q : Pattern) (cs : List ℕ) : Type 0 where
  front : List ℕ
  back : List ℕ
  first : MatchesOne test ps front
  second : Matches test q back
  is : cs ≡ front ++ back

matches_join_each : (test : ℕ → ℕ → Bool) (ps : List Pattern) (q : Pattern) (cs : List ℕ) → MatchesOne test (join_each ps q) cs → Parted test ps q cs
matches_join_each test [] q cs m = elim m [ ]
matches_join_each test (p ∷ ps) q cs (inl m) =
    let j = matches_join test p q cs m in
    record { front = j.0; back = j.1; first = inl j.2; second = j.3; is = j.4 }
matches_join_each test (p ∷ ps) q cs (inr m) =
    let j = matches_join_each test ps q cs m in
    record { front = j.front; back = j.back; first = inr j.first; second = j.second; is = j.is }

-- what a pattern leaves

Leaves : (ℕ → ℕ → Bool) → Pattern → ℕ → Type 0
Leaves test p c = (cs whole : List ℕ) → Matches test p whole → whole ≡ c ∷ cs → MatchesOne test (rests (λ set. test set c) p) cs

one_leaves : (test : ℕ → ℕ → Bool) (set c d : ℕ) (cs : List ℕ) → test set d ≡ true → d ∷ [] ≡ c ∷ cs → MatchesOne test (if test set c then empty ∷ [] else []) cs
one_leaves test set c d cs h e =
    let first : d ≡ c = cc in
    let others : cs ≡ [] = cc in
    let holds : test set c ≡ true = ap (test set) (sym first) ∙ h in
    subst (λ (b : Bool). MatchesOne test (if b then empty ∷ [] else []) cs) (sym holds) (inl others)

both_leaves : (test : ℕ → ℕ → Bool) (p q : Pattern) (c : ℕ) (cs front back : List ℕ) → Leaves test p c → Leaves test q c → Matches test p front → Matches test q back → front ++ back ≡ c ∷ cs → MatchesOne test (rests (λ set. test set c) (both p q)) cs
unfolding Leaves
both_leaves test p q c cs [] back lp lq m n e =
    let t = λ (set : ℕ). test set c in
    one_right test (join_each (rests t p) q) (if is_nullable p then rests t q else []) cs
    (subst (λ (b : Bool). MatchesOne test (if b then rests t q else []) cs) (sym (nullable_of test p m)) (lq cs back n e))
both_leaves test p q c cs (d ∷ front) back lp lq m n e =
    let t = λ (set : ℕ). test set c in
    let first : d ≡ c = cc in
    let others : front ++ back ≡ cs = cc in
    one_left test (join_each (rests t p) q) (if is_nullable p then rests t q else []) cs
    (subst (MatchesOne test (join_each (rests t p) q)) others (join_each_matches test (rests t p) q front back (lp front (d ∷ front) m (ap (λ (x : ℕ). x ∷ front) first)) n))

many_leaves : (test : ℕ → ℕ → Bool) (p : Pattern) (c : ℕ) (cs whole : List ℕ) (parts : List (List ℕ)) → Leaves test p c → Joins (Matches test p) parts whole → whole ≡ c ∷ cs → MatchesOne test (rests (λ set. test set c) (many p)) cs
unfolding Leaves
many_leaves test p c cs whole [] leaves j e = let none : [] ≡ c ∷ cs = sym j ∙ e in cc
many_leaves test p c cs whole ([] ∷ parts) leaves j e = many_leaves test p c cs j.0 parts leaves j.3 (sym j.2 ∙ e)
many_leaves test p c cs whole ((d ∷ part) ∷ parts) leaves j e =
    let all : d ∷ (part ++ j.0) ≡ c ∷ cs = sym j.2 ∙ e in
    let first : d ≡ c = cc in
    let others : part ++ j.0 ≡ cs = cc in
    subst (MatchesOne test (join_each (rests (λ set. test set c) p) (many p))) others
    (join_each_matches test (rests (λ set. test set c) p) (many p) part j.0 (leaves part (d ∷ part) j.1 (ap (λ (x : ℕ). x ∷ part) first)) (parts, j.3))

leaves : (test : ℕ → ℕ → Bool) (p : Pattern) (c : ℕ) → Leaves test p c
unfolding Leaves
leaves test empty c cs whole m e = let none : [] ≡ c ∷ cs = sym m ∙ e in cc
leaves test (one set) c cs whole m e = one_leaves test set c m.0 cs m.1 (sym m.2 ∙ e)
leaves test (both p q) c cs whole m e = both_leaves test p q c cs m.0 m.1 (leaves test p c) (leaves test q c) m.2 m.3 (sym m.4 ∙ e)
leaves test (either p q) c cs whole (inl m) e = one_left test (rests (λ set. test set c) p) (rests (λ set. test set c) q) cs (leaves test p c cs whole m e)
leaves test (either p q) c cs whole (inr m) e = one_right test (rests (λ set. test set c) p) (rests (λ set. test set c) q) cs (leaves test q c cs whole m e)
leaves test (many p) c cs whole m e = many_leaves test p c cs whole m.0 (leaves test p c) m.1 e

pub rest_of : (test : ℕ → ℕ → Bool) (p : Pattern) (c : ℕ) (cs : List ℕ) → Matches test p (c ∷ cs) → MatchesOne test (rests (λ set. test set c) p) cs
unfolding Leaves
rest_of test p c cs m = leaves test p c cs (c ∷ cs) m refl

-- what leaves it

one_left_by : (test : ℕ → ℕ → Bool) (set c : ℕ) (cs : List ℕ) (holds : Bool) → test set c ≡ holds → MatchesOne test (if holds then empty ∷ [] else []) cs → Matches test (one set) (c ∷ cs)
one_left_by test set c cs false h m = elim m [ ]
one_left_by test set c cs true h (inl m) = (c, h, ap (λ (l : List ℕ). c ∷ l) m)
one_left_by test set c cs true h (inr m) = elim m [ ]

second_left_by : (test : ℕ → ℕ → Bool) (p q : Pattern) (c : ℕ) (cs : List ℕ) (nullable : Bool) → is_nullable p ≡ nullable → (MatchesOne test (rests (λ set. test set c) q) cs → Matches test q (c ∷ cs)) → MatchesOne test (if nullable then rests (λ set. test set c) q else []) cs → Matches test (both p q) (c ∷ cs)
second_left_by test p q c cs false h back m = elim m [ ]
second_left_by test p q c cs true h back m = ([], c ∷ cs, matches_nothing test p h, back m, refl)

pub left_by : (test : ℕ → ℕ → Bool) (p : Pattern) (c : ℕ) (cs : List ℕ) → MatchesOne test (rests (λ set. test set c) p) cs → Matches test p (c ∷ cs)
left_by test empty c cs m = elim m [ ]
left_by test (one set) c cs m = one_left_by test set c cs (test set c) refl m
left_by test (both p q) c cs m =
    let t = λ (set : ℕ). test set c in
    elim (one_of_both test (join_each (rests t p) q) (if is_nullable p then rests t q else []) cs m) [
      | inl x ↦
          let j = matches_join_each test (rests t p) q cs x in
          (c ∷ j.front, j.back, left_by test p c j.front j.first, j.second, ap (λ (l : List ℕ). c ∷ l) j.is)
      | inr x ↦ second_left_by test p q c cs (is_nullable p) refl (left_by test q c cs) x
    ]
left_by test (either p q) c cs m = elim (one_of_both test (rests (λ set. test set c) p) (rests (λ set. test set c) q) cs m) [
  | inl x ↦ inl (left_by test p c cs x)
  | inr x ↦ inr (left_by test q c cs x)
]
left_by test (many p) c cs m =
    let j = matches_join_each test (rests (λ set. test set c) p) (many p) cs m in
    ((c ∷ j.front) ∷ j.second.0, (j.back, left_by test p c j.front j.first, ap (λ (l : List ℕ). c ∷ l) j.is, j.second.1))
