-- The patterns of words, of abbreviated IRIs and of blank nodes say how they are written, and their values are what they
-- stand for.
use Rattle.std.proofs.Common.{◌≡◌, inl, inr, ℕ, ◌+◌, Bool, true, false, ◌||◌, Option, None, Some, List, [], ◌∷◌, ◌++◌, length, take, drop, refl, sym, ap, ◌∙◌, subst, arith, if◌then◌else◌}
use Rattle.std.specs.Prelude.{◌==◌, codes, flat_map, nat_lt, not, unwrap_or}
use Rattle.std.specs.Char.{is_ascii_digit, is_ascii_hexdigit}
use Rattle.std.specs.List.{AllByRecursion, prefix_len}
use Rattle.std.proofs.Math.Bool.{or-false, or_assoc, or_comm}
use Rattle.std.proofs.Math.Seq.{drop-append_seam, take-append_seam}
use Rattle.std.proofs.lemmas.Bool.{both_ways, cond-false, cond-true, lt-ltb, not_from_false, or_cases, or_left, or_right}
use Rattle.std.proofs.lemmas.List.{append_assoc, length-append}
use Rattle.owl_characters.specs.Iri.{AllAre, is_among}
use Rattle.owl_characters.proofs.NameLaws.{ends_in_dot-append, prefix_inner}
use Rattle.owl_characters.specs.Names.{AreLocalPieces, IsNameFrom, IsPieceOf, IsPrefixName, Piece, ends_in_dot, ends_in_plain_dot, is_base, is_colon, is_dot, is_inner, is_label_start, is_local_inner, is_local_start, is_part, is_start, piece_spelling, piece_text}
use Rattle.owl_characters.specs.Names.{plain, percent as hexadecimals, escaped}
use Rattle.owl_lexer.proofs.PatternLaws.{AreItems, Ends, IsOne, Means, Spelled, class_is, items_are, mark_is, mark_then, one_then, singles}
use Rattle.owl_lexer.specs.Patterns.{Matches, Pattern}
use Rattle.owl_lexer.specs.Patterns.Pattern.{both, either}
use Rattle.owl_lexer.specs.PatternWords.{◌or◌, ◌then◌, maybe}
use Rattle.owl_tokens.specs.CharacterLaws.{apart, differs, shared}
use Rattle.owl_tokens.specs.SharedPatterns.{abbreviated, backslash, base, colon, digit, dot, escapable, hexadecimal, local, local_piece, name_end, node_id, part, percent_sign, prefix, start, underscore, word}
use Rattle.owl_tokens.specs.Tokens.{Spells}
use Rattle.owl_tokens.specs.Values.{local_in, prefix_in, prefix_length, unescaped, unescaped_behind}
use Rattle.owl_tokens.specs.declared.token.Token.TheVariants.{Blank, Name}

-- names

no_dot : (f : ℕ → Bool) (c : ℕ) → f 46 ≡ false → f c ≡ true → is_dot c ≡ false
no_dot f c fails holds = or-false (46 == c) ∙ apart f 46 c fails holds

name_ends : (f : ℕ → Bool) → f 46 ≡ false → Ends (λ c. f c ≡ true) (λ c. is_inner c ≡ true) (λ c. is_part c ≡ true) ends_in_dot
name_ends f fails = record {
  first = λ c h. no_dot f c fails h;
  last = λ c. (
    λ h. (or_left (is_part c) (is_dot c) h, no_dot is_part c refl h),
    λ h. elim (or_cases (is_part c) (is_dot c) h.0) [ inl x ↦ x | inr x ↦ absurd (both_ways (is_dot c) h.1 x) ],
  );
  behind = λ xs y. ends_in_dot-append xs y [];
}

name_is : (p : Pattern) (f : ℕ → Bool) → IsOne shared p f → f 46 ≡ false → Means shared (both p name_end) (IsNameFrom f)
name_is p f h fails cs =
    let m = items_are shared p (part or dot) part (λ c. f c ≡ true) (λ c. is_inner c ≡ true) (λ c. is_part c ≡ true) ends_in_dot (λ c. c ∷ []) (name_ends f fails) h (class_is shared (part or dot) refl) (class_is shared part refl) cs in (
      λ k. let o = m.0 k in subst (IsNameFrom f) (sym (o.5 ∙ singles (o.0 ∷ o.1))) (o.2, o.3, o.4),
      λ n. m.1 (items cs n),
    )
  where
    items : (cs : List ℕ) → IsNameFrom f cs → AreItems (λ c. f c ≡ true) (λ c. is_inner c ≡ true) ends_in_dot (λ c. c ∷ []) cs
    items [] n = absurd n
    items (c ∷ cs) n = (c, cs, n.0, n.1, n.2, sym (singles (c ∷ cs)))

pub word_is : Means shared word (IsNameFrom is_start)
word_is = name_is start is_start (class_is shared start refl) refl

prefix_is : Means shared (maybe prefix) IsPrefixName
prefix_is [] = (λ m. tt, λ n. inr refl)
prefix_is (c ∷ cs) =
    let o = name_is base is_base (class_is shared base refl) refl (c ∷ cs) in
    (λ m. elim m [ inl x ↦ o.0 x | inr x ↦ absurd (cc) ], λ n. inl (o.1 n))

-- blank nodes
pub blank_is : Means shared node_id (λ cs. (label : List ℕ) × Spells (Blank label) cs)
blank_is cs =
    let label = name_is (start or digit) is_label_start (class_is shared (start or digit) refl) refl in
    let u = mark_then shared underscore (colon then (start or digit) then name_end) 95 (class_is shared underscore refl) in
    let k = mark_then shared colon ((start or digit) then name_end) 58 (class_is shared colon refl) in (
      λ m. let b = (u cs).0 m in let o = (k b.0).0 b.1 in (o.0, ((label o.0).0 o.1, b.2 ∙ ap (λ (l : List ℕ). 95 ∷ l) o.2)),
      λ o. (u cs).1 (58 ∷ o.0, (k (58 ∷ o.0)).1 (o.0, (label o.0).1 o.1.0, refl), o.1.1),
    )

-- pieces of local parts

abbrev ArePiece : (ℕ → Bool) → List ℕ → Type 0
ArePiece f = Spelled (IsPieceOf f) piece_spelling

weaker : (f g : ℕ → Bool) → ((c : ℕ) → f c ≡ true → g c ≡ true) → (piece : Piece) → IsPieceOf f piece → IsPieceOf g piece
weaker f g more (plain c) h = more c h
weaker f g more (hexadecimals a b) h = h
weaker f g more (escaped c) h = h

abbrev no_character : ℕ → Bool
no_character c = false

escape_is : Means shared local_piece (ArePiece no_character)
escape_is cs = (to, λ o. from o.0 o.1 o.2)
  where
    to : Matches shared local_piece cs → ArePiece no_character cs
    to (inl m) =
        let b = (mark_then shared percent_sign (hexadecimal then hexadecimal) 37 (class_is shared percent_sign refl) cs).0 m in
        let x = (one_then shared hexadecimal hexadecimal is_ascii_hexdigit (class_is shared hexadecimal refl) b.0).0 b.1 in
        (hexadecimals x.0 x.3.0, (x.2, x.3.1), b.2 ∙ ap (λ (l : List ℕ). 37 ∷ l) (x.4 ∙ ap (λ (l : List ℕ). x.0 ∷ l) x.3.2))
    to (inr m) =
        let b = (mark_then shared backslash escapable 92 (class_is shared backslash refl) cs).0 m in
        (escaped b.1.0, b.1.1, b.2 ∙ ap (λ (l : List ℕ). 92 ∷ l) b.1.2)

    from : (piece : Piece) → IsPieceOf no_character piece → cs ≡ piece_spelling piece → Matches shared local_piece cs
    from (plain c) h e = absurd (cc)
    from (hexadecimals a b) h e =
        inl ((mark_then shared percent_sign (hexadecimal then hexadecimal) 37 (class_is shared percent_sign refl) cs).1
        (a ∷ b ∷ [], (a ∷ [], b ∷ [], (a, h.0, refl), (b, h.1, refl), refl), e))
    from (escaped c) h e = inr ((mark_then shared backslash escapable 92 (class_is shared backslash refl) cs).1 (c ∷ [], (c, h, refl), e))

-- a piece may be a character too
or_piece : (p q : Pattern) (f g k : ℕ → Bool) → IsOne shared p f → Means shared q (ArePiece g) → ((c : ℕ) → (f c || g c) ≡ k c) → Means shared (either p q) (ArePiece k)
or_piece p q f g k hp hq same cs = (
  λ m. elim m [
    | inl x ↦ let o = (hp cs).0 x in (plain o.0, sym (same o.0) ∙ or_left (f o.0) (g o.0) o.1, o.2)
    | inr x ↦ let o = (hq cs).0 x in (o.0, weaker g k (λ c e. sym (same c) ∙ or_right (f c) (g c) e) o.0 o.1, o.2)
  ],
  λ o. from o.0 o.1 o.2,
)
  where
    from : (piece : Piece) → IsPieceOf k piece → cs ≡ piece_spelling piece → Matches shared (either p q) cs
    from (plain c) h e = elim (or_cases (f c) (g c) (same c ∙ h)) [ inl x ↦ inl ((hp cs).1 (c, x, e)) | inr x ↦ inr ((hq cs).1 (plain c, x, e)) ]
    from piece h e = inr ((hq cs).1 (piece, h, e))

colon_piece : Means shared (colon or local_piece) (ArePiece is_colon)
colon_piece = or_piece colon local_piece is_colon no_character is_colon (class_is shared colon refl) escape_is (λ c. or-false (is_colon c))

-- what may stand at the end of a local part
abbrev is_local_last : ℕ → Bool
is_local_last c = is_part c || is_colon c

last_piece : Means shared (part or colon or local_piece) (ArePiece is_local_last)
last_piece = or_piece part (colon or local_piece) is_part is_colon is_local_last (class_is shared part refl) colon_piece (λ c. refl)

inner_piece : Means shared (part or dot or colon or local_piece) (ArePiece is_local_inner)
inner_piece =
    or_piece part (dot or colon or local_piece) is_part (λ c. is_dot c || is_colon c) is_local_inner (class_is shared part refl)
    (or_piece dot (colon or local_piece) is_dot is_colon (λ c. is_dot c || is_colon c) (class_is shared dot refl) colon_piece (λ c. refl))
    (λ c. ap (λ b. is_part c || (b || is_colon c)) (or-false (46 == c)))

first_piece : Means shared (start or colon or digit or local_piece) (ArePiece is_local_start)
first_piece =
    let digits = or_piece digit local_piece is_ascii_digit no_character is_ascii_digit (class_is shared digit refl) escape_is (λ c. or-false (is_ascii_digit c)) in
    or_piece start (colon or digit or local_piece) is_start (λ c. is_ascii_digit c || is_colon c) is_local_start (class_is shared start refl)
    (or_piece colon (digit or local_piece) is_colon is_ascii_digit (λ c. is_ascii_digit c || is_colon c) (class_is shared colon refl) digits (λ c. or_comm (is_colon c) (is_ascii_digit c)))
    (λ c. sym (or_assoc (is_start c) (is_ascii_digit c) (is_colon c)))

-- local parts

ends_in_plain_dot-append : (xs : List Piece) (y : Piece) → ends_in_plain_dot (xs ++ y ∷ []) ≡ ends_in_plain_dot (y ∷ [])
ends_in_plain_dot-append [] y = refl
ends_in_plain_dot-append (plain c ∷ []) y = refl
ends_in_plain_dot-append (hexadecimals a b ∷ []) y = refl
ends_in_plain_dot-append (escaped c ∷ []) y = refl
ends_in_plain_dot-append (plain c ∷ x ∷ xs) y = ends_in_plain_dot-append (x ∷ xs) y
ends_in_plain_dot-append (hexadecimals a b ∷ x ∷ xs) y = ends_in_plain_dot-append (x ∷ xs) y
ends_in_plain_dot-append (escaped c ∷ x ∷ xs) y = ends_in_plain_dot-append (x ∷ xs) y

undotted : (f : ℕ → Bool) → f 46 ≡ false → (piece : Piece) → IsPieceOf f piece → ends_in_plain_dot (piece ∷ []) ≡ false
undotted f fails (plain c) h = no_dot f c fails h
undotted f fails (hexadecimals a b) h = refl
undotted f fails (escaped c) h = refl

last_is_inner : (c : ℕ) → is_local_last c ≡ true → is_local_inner c ≡ true
last_is_inner c h = elim (or_cases (is_part c) (is_colon c) h) [
  | inl x ↦ or_left (is_part c) (is_among (codes ".:") c) x
  | inr x ↦ or_right (is_part c) (is_among (codes ".:") c) (or_right (46 == c) (is_colon c) x)
]

inner_is_last : (piece : Piece) → IsPieceOf is_local_inner piece → ends_in_plain_dot (piece ∷ []) ≡ false → IsPieceOf is_local_last piece
inner_is_last (plain c) h d = elim (or_cases (is_part c) (is_among (codes ".:") c) h) [
  | inl x ↦ or_left (is_part c) (is_colon c) x
  | inr x ↦ elim (or_cases (46 == c) (is_colon c) x) [
    | inl y ↦ absurd (both_ways (is_dot c) d (or_left (46 == c) false y))
    | inr y ↦ or_right (is_part c) (is_colon c) y
  ]
]
inner_is_last (hexadecimals a b) h d = h
inner_is_last (escaped c) h d = h

local_ends : Ends (IsPieceOf is_local_start) (IsPieceOf is_local_inner) (IsPieceOf is_local_last) ends_in_plain_dot
local_ends = record {
  first = undotted is_local_start refl;
  last = λ x. (λ h. (weaker is_local_last is_local_inner last_is_inner x h, undotted is_local_last refl x h), λ h. inner_is_last x h.0 h.1);
  behind = ends_in_plain_dot-append;
}

local_is : Means shared (maybe local) (Spelled AreLocalPieces (flat_map piece_spelling))
local_is cs =
    let m = items_are shared (start or colon or digit or local_piece) (part or dot or colon or local_piece) (part or colon or local_piece) (IsPieceOf is_local_start) (IsPieceOf is_local_inner) (IsPieceOf is_local_last) ends_in_plain_dot piece_spelling local_ends first_piece inner_piece last_piece cs in (
      λ k. elim k [ inl x ↦ let o = m.0 x in (o.0 ∷ o.1, (o.2, o.3, o.4), o.5) | inr e ↦ ([], tt, e) ],
      λ o. from m.1 o.0 o.1 o.2,
    )
  where
    from : (AreItems (IsPieceOf is_local_start) (IsPieceOf is_local_inner) ends_in_plain_dot piece_spelling cs → Matches shared local cs) → (pieces : List Piece) → AreLocalPieces pieces → cs ≡ flat_map piece_spelling pieces → Matches shared (maybe local) cs
    from back [] h e = inr e
    from back (x ∷ xs) h e = inl (back (x, xs, h.0, h.1, h.2, e))

-- what is written of a piece stands for its text

pub plain_kept : (f : ℕ → Bool) (c : ℕ) (rest : List ℕ) → f 92 ≡ false → f c ≡ true → unescaped_behind false (c ∷ rest) ≡ c ∷ unescaped_behind false rest
plain_kept f c rest fails holds = cond-false (c == 0x5C) (unescaped_behind true rest) (c ∷ unescaped_behind false rest) (differs f c 92 holds fails)

piece_kept : (f : ℕ → Bool) (piece : Piece) (rest : List ℕ) → f 92 ≡ false → IsPieceOf f piece → unescaped_behind false (piece_spelling piece ++ rest) ≡ piece_text piece ++ unescaped_behind false rest
piece_kept f (plain c) rest fails h = plain_kept f c rest fails h
piece_kept f (hexadecimals a b) rest fails h =
    ap (λ (l : List ℕ). 37 ∷ l) (plain_kept is_ascii_hexdigit a (b ∷ rest) refl h.0 ∙ ap (λ (l : List ℕ). a ∷ l) (plain_kept is_ascii_hexdigit b rest refl h.1))
piece_kept f (escaped c) rest fails h = refl

pieces_kept : (pieces : List Piece) → AllByRecursion (IsPieceOf is_local_inner) pieces → unescaped_behind false (flat_map piece_spelling pieces) ≡ flat_map piece_text pieces
pieces_kept [] a = refl
pieces_kept (x ∷ xs) a = piece_kept is_local_inner x (flat_map piece_spelling xs) refl a.0 ∙ ap (λ (l : List ℕ). piece_text x ++ l) (pieces_kept xs a.1)

local_value : (pieces : List Piece) → AreLocalPieces pieces → unescaped (flat_map piece_spelling pieces) ≡ flat_map piece_text pieces
unfolding unescaped
local_value [] h = refl
local_value (x ∷ xs) h = piece_kept is_local_start x (flat_map piece_spelling xs) refl h.0 ∙ ap (λ (l : List ℕ). piece_text x ++ l) (pieces_kept xs h.1)

-- abbreviated IRIs

pub abbreviated_is : Means shared abbreviated (λ cs. (prefix : List ℕ) × (local : List ℕ) × Spells (Name prefix local) cs)
abbreviated_is cs =
    let mark = mark_is shared colon 58 (class_is shared colon refl) in (
      λ m.
          let p = m.2 in
          let l = (local_is m.1).0 m.3 in (
            p.0,
            flat_map piece_text l.0,
            (
              m.1,
              (prefix_is p.0).0 p.2,
              record { pieces = l.0; pieces_fit = l.1; spelled = l.2; stands_for = refl },
              m.4 ∙ ap (λ (l : List ℕ). l ++ m.1) (p.4 ∙ ap (λ (l : List ℕ). p.0 ++ l) ((mark p.1).0 p.3)) ∙ append_assoc p.0 (58 ∷ []) m.1,
            ),
          ),
      λ o.
          let s = o.2.2 in (
            o.0 ++ 58 ∷ [],
            o.2.0,
            (o.0, 58 ∷ [], (prefix_is o.0).1 o.2.1, (mark (58 ∷ [])).1 refl, refl),
            (local_is o.2.0).1 (s.pieces, s.pieces_fit, s.spelled),
            o.2.3 ∙ sym (append_assoc o.0 (58 ∷ []) o.2.0),
          ),
    )

-- where the first colon is

before_colon : (xs ys : List ℕ) → AllAre is_inner xs → prefix_len (λ c. not (c == 58)) (xs ++ 58 ∷ ys) ≡ length xs
before_colon [] ys a = refl
before_colon (x ∷ xs) ys a =
    let others = before_colon xs ys a.1 in
    let more : 1 + prefix_len (λ c. not (c == 58)) (xs ++ 58 ∷ ys) ≡ length (x ∷ xs) = omega arith in
    cond-true (not (x == 58)) (1 + prefix_len (λ c. not (c == 58)) (xs ++ 58 ∷ ys)) 0 (not_from_false (x == 58) (differs is_inner x 58 a.0 refl)) ∙ more

colon_behind : (xs ys : List ℕ) → AllAre is_inner xs → prefix_length (xs ++ 58 ∷ ys) ≡ length xs
colon_behind xs ys a =
    let sizes : length (xs ++ 58 ∷ ys) ≡ length xs + length (58 ∷ ys) = length-append xs (58 ∷ ys) in
    let some : length (58 ∷ ys) ≡ length ys + 1 = omega arith in
    let within : nat_lt (length xs) (length (xs ++ 58 ∷ ys)) ≡ true = lt-ltb (length xs) (length (xs ++ 58 ∷ ys)) (omega arith) in
    let found = λ (n : ℕ). if nat_lt n (length (xs ++ 58 ∷ ys)) then Some n else None in
    ap (λ (o : Option ℕ). unwrap_or o (length (xs ++ 58 ∷ ys)))
    (ap found (before_colon xs ys a) ∙ cond-true (nat_lt (length xs) (length (xs ++ 58 ∷ ys))) (Some (length xs)) None within)

pub prefix_value : (prefix text cs : List ℕ) → Spells (Name prefix text) cs → prefix_in cs ≡ prefix
prefix_value prefix text cs s =
    ap prefix_in s.3
    ∙ ap (λ (k : ℕ). take k (prefix ++ 58 ∷ s.0)) (colon_behind prefix s.0 (prefix_inner prefix s.1))
    ∙ take-append_seam prefix (58 ∷ s.0)

pub text_value : (prefix text cs : List ℕ) → Spells (Name prefix text) cs → unescaped (local_in cs) ≡ text
text_value prefix text cs s =
    let written : local_in cs ≡ s.0 =
    ap local_in s.3
    ∙ ap (λ (k : ℕ). drop 1 (drop k (prefix ++ 58 ∷ s.0))) (colon_behind prefix s.0 (prefix_inner prefix s.1))
    ∙ ap (drop 1) (drop-append_seam prefix (58 ∷ s.0)) in
    ap unescaped (written ∙ s.2.spelled) ∙ local_value s.2.pieces s.2.pieces_fit ∙ sym s.2.stands_for
