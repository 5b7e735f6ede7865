-- What patterns of the usual forms say, in words that do not speak of patterns.
use Rattle.std.proofs.Common.{◌≡◌, ◌↔◌, inl, inr, ℕ, zero, suc, Bool, true, false, ◌&&◌, ◌||◌, not, List, [], ◌∷◌, ◌++◌, refl, sym, ap, ◌∙◌, subst, arith}
use Rattle.std.specs.Prelude.{◌==◌, flat_map, map, nat_le, slice_index_or}
use Rattle.std.specs.List.{AllByRecursion}
use Rattle.std.proofs.lemmas.Bool.{and_from, and_left, and_parts, and_right, cases_order, eq-eqb, eqb-true, le-leb, lt-leb, ne_eqb, or_cases, or_left, or_right}
use Rattle.std.proofs.lemmas.List.{append_assoc, flat_map_more}
use Rattle.owl_lexer.specs.Grammars.{CharacterSet, has, is_in_ranges, test_of}
use Rattle.owl_lexer.specs.Languages.{IsCommentText}
use Rattle.owl_lexer.specs.Patterns.{Joins, Matches, Pattern}
use Rattle.owl_lexer.specs.Patterns.Pattern.{empty, one, both, either, many}
use Rattle.owl_lexer.specs.PatternWords.{maybe}
use Rattle.owl_lexer.specs.Splitting.{is_line_end}
use Rattle.owl_characters.specs.Iri.{AllAre, is_among}
use Rattle.owl_characters.specs.Names.{IsRunOf}

-- The pattern matches the characters of which the fact holds.
abbrev pub Means : (ℕ → ℕ → Bool) → Pattern → (List ℕ → Type 0) → Type 0
Means test p P = (cs : List ℕ) → Matches test p cs ↔ P cs

-- one of the items that fit, as it is written
abbrev pub Spelled : {T : Type 0} → (T → Type 0) → (T → List ℕ) → List ℕ → Type 0
Spelled {T} Fits spelling cs = (x : T) × Fits x × (cs ≡ spelling x)

-- The pattern is one character that passes a test.
abbrev pub IsOne : (ℕ → ℕ → Bool) → Pattern → (ℕ → Bool) → Type 0
IsOne test p f = Means test p (Spelled (λ c. f c ≡ true) (λ c. c ∷ []))

pub one_is : (test : ℕ → ℕ → Bool) (set : ℕ) (f : ℕ → Bool) → ((c : ℕ) → test set c ≡ f c) → IsOne test (one set) f
one_is test set f same cs = (λ m. (m.0, sym (same m.0) ∙ m.1, m.2), λ o. (o.0, same o.0 ∙ o.1, o.2))

-- the test may be told in another way
pub one_as : (test : ℕ → ℕ → Bool) (p : Pattern) (f g : ℕ → Bool) → ((c : ℕ) → f c ≡ g c) → IsOne test p f → IsOne test p g
one_as test p f g same h cs = (λ m. let o = (h cs).0 m in (o.0, sym (same o.0) ∙ o.1, o.2), λ o. (h cs).1 (o.0, same o.0 ∙ o.1, o.2))

-- one of some sets
abbrev pub is_class : Pattern → Bool
is_class (one set) = true
is_class (either p q) = is_class p && is_class q
is_class p = false

abbrev pub passes : (ℕ → ℕ → Bool) → Pattern → ℕ → Bool
passes test (one set) c = test set c
passes test (either p q) c = passes test p c || passes test q c
passes test p c = false

pub class_is : (test : ℕ → ℕ → Bool) (p : Pattern) → is_class p ≡ true → IsOne test p (passes test p)
class_is test (one set) h cs = (λ m. m, λ o. o)
class_is test (either p q) h cs =
    let parts = and_parts (is_class p) (is_class q) h in
    let x = class_is test p parts.0 cs in
    let y = class_is test q parts.1 cs in (
      λ m. elim m [
        | inl k ↦ let o = x.0 k in (o.0, or_left (passes test p o.0) (passes test q o.0) o.1, o.2)
        | inr k ↦ let o = y.0 k in (o.0, or_right (passes test p o.0) (passes test q o.0) o.1, o.2)
      ],
      λ o. elim (or_cases (passes test p o.0) (passes test q o.0) o.1) [
        | inl k ↦ inl (x.1 (o.0, k, o.2))
        | inr k ↦ inr (y.1 (o.0, k, o.2))
      ],
    )
class_is test p h cs = absurd (cc)

-- a character, and then another pattern
pub one_then : (test : ℕ → ℕ → Bool) (p q : Pattern) (f : ℕ → Bool) → IsOne test p f → (cs : List ℕ) → Matches test (both p q) cs ↔ ((c : ℕ) × (rest : List ℕ) × (f c ≡ true) × Matches test q rest × (cs ≡ c ∷ rest))
one_then test p q f h cs = (
  λ m. let o = (h m.0).0 m.2 in (o.0, m.1, o.1, m.3, m.4 ∙ ap (λ (l : List ℕ). l ++ m.1) o.2),
  λ o. (o.0 ∷ [], o.1, (h (o.0 ∷ [])).1 (o.0, o.2, refl), o.3, o.4),
)

-- one character alone

same_mark : (x c : ℕ) → is_among (x ∷ []) c ≡ true → c ≡ x
same_mark x c h = elim (or_cases (x == c) false h) [ inl e ↦ sym (eqb-true x c e) | inr e ↦ absurd (cc) ]

pub mark_is : (test : ℕ → ℕ → Bool) (p : Pattern) (x : ℕ) → IsOne test p (λ c. is_among (x ∷ []) c) → Means test p (λ cs. cs ≡ x ∷ [])
mark_is test p x h cs = (
  λ m. let o = (h cs).0 m in o.2 ∙ ap (λ (c : ℕ). c ∷ []) (same_mark x o.0 o.1),
  λ e. (h cs).1 (x, or_left (x == x) false (eq-eqb x x refl), e),
)

pub mark_then : (test : ℕ → ℕ → Bool) (p q : Pattern) (x : ℕ) → IsOne test p (λ c. is_among (x ∷ []) c) → (cs : List ℕ) → Matches test (both p q) cs ↔ ((rest : List ℕ) × Matches test q rest × (cs ≡ x ∷ rest))
mark_then test p q x h cs = (
  λ m. (m.1, m.3, m.4 ∙ ap (λ (l : List ℕ). l ++ m.1) ((mark_is test p x h m.0).0 m.2)),
  λ o. (x ∷ [], o.0, (mark_is test p x h (x ∷ [])).1 refl, o.1, o.2),
)

-- any number of items
pub many_are : {T : Type 0} → (test : ℕ → ℕ → Bool) (p : Pattern) (Fits : T → Type 0) (spelling : T → List ℕ) → Means test p (Spelled Fits spelling) → Means test (many p) (Spelled (AllByRecursion Fits) (flat_map spelling))
many_are {T = T} test p Fits spelling h cs = (λ m. items m.0 cs m.1, λ o. subst (Matches test (many p)) (sym o.2) (parts o.0 o.1))
  where
    items : (parts : List (List ℕ)) (cs : List ℕ) → Joins (Matches test p) parts cs → Spelled (AllByRecursion Fits) (flat_map spelling) cs
    items [] cs j = ([], tt, j)
    items (part ∷ parts) cs j =
        let first = (h part).0 j.1 in
        let others = items parts j.0 j.3 in
        (first.0 ∷ others.0, (first.1, others.1), j.2 ∙ ap (λ (l : List ℕ). l ++ j.0) first.2 ∙ ap (λ (l : List ℕ). spelling first.0 ++ l) others.2)

    parts : (xs : List T) → AllByRecursion Fits xs → Matches test (many p) (flat_map spelling xs)
    parts [] a = ([], refl)
    parts (x ∷ xs) a =
        let others = parts xs a.1 in
        (spelling x ∷ others.0, (flat_map spelling xs, (h (spelling x)).1 (x, a.0, refl), refl, others.1))

pub singles : (cs : List ℕ) → flat_map (λ c. c ∷ []) cs ≡ cs
singles [] = refl
singles (c ∷ cs) = ap (λ (l : List ℕ). c ∷ l) (singles cs)

pub all_are : (test : ℕ → ℕ → Bool) (p : Pattern) (f : ℕ → Bool) → IsOne test p f → Means test (many p) (AllAre f)
all_are test p f h cs =
    let m = many_are test p (λ c. f c ≡ true) (λ c. c ∷ []) h cs in (
      λ k. let o = m.0 k in subst (AllAre f) (sym (o.2 ∙ singles o.0)) o.1,
      λ a. m.1 (cs, a, sym (singles cs)),
    )

-- one character at least
pub run_is : (test : ℕ → ℕ → Bool) (p : Pattern) (f : ℕ → Bool) → IsOne test p f → Means test (both p (many p)) (IsRunOf f)
run_is test p f h cs = (
  λ m. let o = (one_then test p (many p) f h cs).0 m in subst (IsRunOf f) (sym o.4) (o.2, (all_are test p f h o.1).0 o.3),
  back cs,
)
  where
    back : (cs : List ℕ) → IsRunOf f cs → Matches test (both p (many p)) cs
    back [] r = absurd r
    back (c ∷ cs) r = (one_then test p (many p) f h (c ∷ cs)).1 (c, cs, r.0, (all_are test p f h cs).1 r.1, refl)

pub comment_is : (test : ℕ → ℕ → Bool) (p q : Pattern) → IsOne test p (λ c. is_among (35 ∷ []) c) → IsOne test q (λ c. not (is_line_end c)) → Means test (both p (many q)) IsCommentText
comment_is test p q h k cs = (
  λ m. let o = (mark_then test p (many q) 35 h cs).0 m in subst IsCommentText (sym o.2) (refl, (all_are test q (λ c. not (is_line_end c)) k o.0).0 o.1),
  back cs,
)
  where
    back : (cs : List ℕ) → IsCommentText cs → Matches test (both p (many q)) cs
    back [] t = absurd t
    back (c ∷ cs) t = (mark_then test p (many q) 35 h (c ∷ cs)).1 (cs, (all_are test q (λ c. not (is_line_end c)) k cs).1 t.1, ap (λ (x : ℕ). x ∷ cs) t.0)

-- an item, and perhaps others behind it, of which the last is of other ones

record LastOf {T : Type 0} (xs : List T) : Type 0 where
  front : List T
  last : T
  is : xs ≡ front ++ last ∷ []

last_of : {T : Type 0} → (x : T) (xs : List T) → LastOf (x ∷ xs)
last_of x [] = record { front = []; last = x; is = refl }
last_of x (y ∷ ys) = let o = last_of y ys in record { front = x ∷ o.front; last = o.last; is = ap (λ l. x ∷ l) o.is }

all_with_last : {T : Type 0} → (P : T → Type 0) (xs : List T) (y : T) → AllByRecursion P (xs ++ y ∷ []) ↔ (AllByRecursion P xs × P y)
all_with_last P [] y = (λ a. (tt, a.0), λ a. (a.1, tt))
all_with_last P (x ∷ xs) y =
    let o = all_with_last P xs y in
    (λ a. let b = o.0 a.1 in ((a.0, b.0), b.1), λ a. (a.0.0, o.1 (a.0.1, a.1)))

-- The test tells by the last item that it may not be last.
pub record Ends {T : Type 0} (First Inner Last : T → Type 0) (is_open : List T → Bool) : Type 0 where
  pub first : (x : T) → First x → is_open (x ∷ []) ≡ false
  pub last : (x : T) → Last x ↔ (Inner x × (is_open (x ∷ []) ≡ false))
  pub behind : (xs : List T) (y : T) → is_open (xs ++ y ∷ []) ≡ is_open (y ∷ [])

-- such items
abbrev pub AreItems : {T : Type 0} → (T → Type 0) → (T → Type 0) → (List T → Bool) → (T → List ℕ) → List ℕ → Type 0
AreItems {T} First Inner is_open spelling cs =
    (x : T) × (xs : List T) × First x × AllByRecursion Inner xs × (is_open (x ∷ xs) ≡ false) × (cs ≡ flat_map spelling (x ∷ xs))

pub items_are : {T : Type 0} → (test : ℕ → ℕ → Bool) (p q r : Pattern) (First Inner Last : T → Type 0) (is_open : List T → Bool) (spelling : T → List ℕ) → Ends First Inner Last is_open → Means test p (Spelled First spelling) → Means test q (Spelled Inner spelling) → Means test r (Spelled Last spelling) → Means test (both p (maybe (both (many q) r))) (AreItems First Inner is_open spelling)
items_are {T = T} test p q r First Inner Last is_open spelling w hp hq hr cs = (
  λ m.
      let f = (hp m.0).0 m.2 in
      let here : cs ≡ spelling f.0 ++ m.1 = m.4 ∙ ap (λ (l : List ℕ). l ++ m.1) f.2 in
      elim m.3 [
        | inl k ↦
            let i = (many_are test q Inner spelling hq k.0).0 k.2 in
            let l = (hr k.1).0 k.3 in
            let last = (w.last l.0).0 l.1 in
            let e : m.1 ≡ flat_map spelling i.0 ++ spelling l.0 = k.4 ∙ ap (λ (l : List ℕ). l ++ k.1) i.2 ∙ ap (λ (c : List ℕ). flat_map spelling i.0 ++ c) l.2 in (
              f.0,
              i.0 ++ l.0 ∷ [],
              f.1,
              (all_with_last Inner i.0 l.0).1 (i.1, last.0),
              w.behind (f.0 ∷ i.0) l.0 ∙ last.1,
              here ∙ ap (λ (l : List ℕ). spelling f.0 ++ l) e ∙ sym (append_assoc (spelling f.0) (flat_map spelling i.0) (spelling l.0)) ∙ flat_map_more spelling (spelling f.0) i.0 l.0,
            )
        | inr e ↦ (f.0, [], f.1, tt, w.first f.0 f.1, here ∙ ap (λ (l : List ℕ). spelling f.0 ++ l) e)
      ],
  λ o. (spelling o.0, flat_map spelling o.1, (hp (spelling o.0)).1 (o.0, o.2, refl), behind o.0 o.1 o.3 o.4, o.5),
)
  where
    behind : (x : T) (xs : List T) → AllByRecursion Inner xs → is_open (x ∷ xs) ≡ false → Matches test (maybe (both (many q) r)) (flat_map spelling xs)
    behind x [] a e = inr refl
    behind x (y ∷ ys) a e =
        let o = last_of y ys in
        let all = (all_with_last Inner o.front o.last).0 (subst (AllByRecursion Inner) o.is a) in
        let closed : is_open (o.last ∷ []) ≡ false = sym (w.behind (x ∷ o.front) o.last) ∙ ap (λ (l : List T). is_open (x ∷ l)) (sym o.is) ∙ e in
        inl (
          flat_map spelling o.front,
          spelling o.last,
          (many_are test q Inner spelling hq (flat_map spelling o.front)).1 (o.front, all.0, refl),
          (hr (spelling o.last)).1 (o.last, (w.last o.last).1 (all.1, closed), refl),
          ap (flat_map spelling) o.is ∙ sym (flat_map_more spelling [] o.front o.last),
        )

-- the same over other sets

abbrev pub uses_only : (ℕ → Bool) → Pattern → Bool
uses_only known empty = true
uses_only known (one set) = known set
uses_only known (both p q) = uses_only known p && uses_only known q
uses_only known (either p q) = uses_only known p && uses_only known q
uses_only known (many p) = uses_only known p

pub joins_as : (P Q : List ℕ → Type 0) → ((cs : List ℕ) → P cs → Q cs) → (parts : List (List ℕ)) (cs : List ℕ) → Joins P parts cs → Joins Q parts cs
joins_as P Q each [] cs j = j
joins_as P Q each (part ∷ parts) cs j = (j.0, each part j.1, j.2, joins_as P Q each parts j.0 j.3)

pub matches_as : (known : ℕ → Bool) (test other : ℕ → ℕ → Bool) → ((set c : ℕ) → known set ≡ true → test set c ≡ other set c) → (p : Pattern) → uses_only known p ≡ true → (cs : List ℕ) → Matches test p cs → Matches other p cs
matches_as known test other same empty h cs m = m
matches_as known test other same (one set) h cs m = (m.0, sym (same set m.0 h) ∙ m.1, m.2)
matches_as known test other same (both p q) h cs m =
    let parts = and_parts (uses_only known p) (uses_only known q) h in
    (m.0, m.1, matches_as known test other same p parts.0 m.0 m.2, matches_as known test other same q parts.1 m.1 m.3, m.4)
matches_as known test other same (either p q) h cs (inl m) =
    inl (matches_as known test other same p (and_parts (uses_only known p) (uses_only known q) h).0 cs m)
matches_as known test other same (either p q) h cs (inr m) =
    inr (matches_as known test other same q (and_parts (uses_only known p) (uses_only known q) h).1 cs m)
matches_as known test other same (many p) h cs m =
    (m.0, joins_as (Matches test p) (Matches other p) (matches_as known test other same p h) m.0 cs m.1)

-- Each set has the characters that pass the word of its number.
abbrev pub Agree : List CharacterSet → List (ℕ → Bool) → Type 0
Agree [] [] = Unit {0}
Agree (set ∷ sets) (word ∷ words) = ((c : ℕ) → has set c ≡ word c) × Agree sets words
Agree sets words = ⊥

abbrev pub word_of : List (ℕ → Bool) → ℕ → ℕ → Bool
word_of words set = slice_index_or words set (λ c. false)

abbrev pub is_index : List (ℕ → Bool) → ℕ → Bool
is_index [] n = false
is_index (word ∷ words) zero = true
is_index (word ∷ words) (suc n) = is_index words n

pub agree_at : (sets own : List CharacterSet) (words : List (ℕ → Bool)) → Agree sets words → (set c : ℕ) → is_index words set ≡ true → test_of (sets ++ own) set c ≡ word_of words set c
agree_at [] own [] a set c h = absurd (cc)
agree_at [] own (word ∷ words) a set c h = absurd a
agree_at (set ∷ sets) own [] a n c h = absurd a
agree_at (set ∷ sets) own (word ∷ words) a zero c h = a.0 c
agree_at (set ∷ sets) own (word ∷ words) a (suc n) c h = agree_at sets own words a.1 n c h

-- sets of single characters

one_range : (x c : ℕ) → (nat_le x c && nat_le c x) ≡ (x == c)
one_range x c = elim (cases_order x c) [
  | inl e ↦ and_from (nat_le x c) (nat_le c x) (le-leb x c (omega arith)) (le-leb c x (omega arith)) ∙ sym (eq-eqb x c e)
  | inr other ↦ elim other [
    | inl lt ↦ and_right (nat_le x c) (nat_le c x) (lt-leb c x (omega arith)) ∙ sym (ne_eqb x c (λ e. omega arith))
    | inr lt ↦ and_left (nat_le x c) (nat_le c x) (lt-leb x c (omega arith)) ∙ sym (ne_eqb x c (λ e. omega arith))
  ]
]

pub each_is : (cs : List ℕ) (c : ℕ) → is_in_ranges (map (λ x. (x, x)) cs) c ≡ is_among cs c
each_is [] c = refl
each_is (x ∷ xs) c = ap (λ b. b || is_in_ranges (map (λ x. (x, x)) xs) c) (one_range x c) ∙ ap (λ b. (x == c) || b) (each_is xs c)
