-- Each string that the grammar has stands for a text: its escapes are all of characters.
--
-- Sets go by their places in `turtle_sets`: 4 is the backslash, 5 and 6 are the quotes, 25 to 31
-- digits, 34 what an ECHAR has behind its backslash, 36 to 39 what strings have beside escapes, and
-- 47 and 48 the letters of a UCHAR.
use Rattle.std.proofs.Common.{◌≡◌, inl, inr, ℕ, zero, suc, ◌+◌, ◌-◌, ◌*◌, ◌<◌, ◌≤◌, ◌==◌, nat_lt, nat_le, Bool, true, false, not, ◌&&◌, ◌||◌, if◌then◌else◌, Option, None, Some, List, [], ◌∷◌, ◌++◌, length, take, drop, refl, sym, ap, ap₂, ◌∙◌, subst, arith, append_assoc, map, unwrap_or, length-append}
use Rattle.std.proofs.lemmas.List.{append-nil}
use Rattle.std.proofs.Math.Seq.{take-append_seam, drop-append_seam}
use Rattle.std.proofs.lemmas.Bool.{and_parts, eq-eqb, eqb-true, leb-true}
use Rattle.std.specs.Prelude.{slice_index_or}
use Rattle.std.specs.List.{list_all}
use Rattle.std.proofs.lemmas.Bool.Decides.{nat_tests}
use Rattle.owl_characters.specs.Iri.{is_among}
use Rattle.owl_tokens.specs.CharacterLaws.{differs}
use Rattle.owl_lexer.proofs.GapTestLaws.{passes_among}
use Rattle.owl_lexer.specs.Grammars.{CharacterSet, IsLexeme, IsLexemeOf, Terminal, has, is_in_ranges, test_of}
use Rattle.owl_lexer.specs.Grammars.CharacterSet.{inside as of_ranges, outside as but_ranges}
use Rattle.owl_lexer.specs.Patterns.{Joins, Matches, Pattern}
use Rattle.owl_lexer.specs.Patterns.Pattern.{empty, one, both, either, many}
use Rattle.std.specs.Int.Digits.{number_from_digits_after}
use Rattle.ttl_tokens.specs.EscapedText.{IsPiece, Piece, behind_text, piece_character, piece_spelling}
use Rattle.ttl_tokens.specs.EscapedText.Piece.{plain, echar, uchar, long_uchar}
use Rattle.ttl_tokens.proofs.EscapeLaws.{at_piece}
use Rattle.ttl_tokens.specs.Escapes.{character_at, hex_number, hex_value, in_front, is_character, string_escape as string_escape_of, unescaped}
use Rattle.ttl_tokens.specs.TurtleGrammar.{turtle_grammar, string_escape, character_digits, long_character_digits}
use Rattle.ttl_tokens.specs.declared.kinds.TheConstants.{STRING_LITERAL_QUOTE, STRING_LITERAL_SINGLE_QUOTE, STRING_LITERAL_LONG_QUOTE, STRING_LITERAL_LONG_SINGLE_QUOTE}
use Rattle.ttl_tokens.specs.TurtleValues.{inside, string_text, IsUndone}

-- the characters are written for a text, whatever stands behind them
pub record HasText (cs : List ℕ) : Type 0 where
  pub text : List ℕ
  pub undone : (rest : List ℕ) → unescaped (cs ++ rest) ≡ behind_text text (unescaped rest)

behind_nothing : (o : Option (List ℕ)) → o ≡ behind_text [] o
behind_nothing None = refl
behind_nothing (Some others) = refl

behind_both : (s t : List ℕ) (o : Option (List ℕ)) → behind_text s (behind_text t o) ≡ behind_text (s ++ t) o
behind_both s t None = refl
behind_both s t (Some others) = ap (λ (l : List ℕ). Some l) (sym (append_assoc s t others))

behind_one : (c : ℕ) (o : Option (List ℕ)) → in_front (Some c) o ≡ behind_text (c ∷ []) o
behind_one c None = refl
behind_one c (Some others) = refl

no_text : HasText []
no_text = record { text = []; undone = λ rest. behind_nothing (unescaped rest) }

both_texts : (xs ys : List ℕ) → HasText xs → HasText ys → HasText (xs ++ ys)
both_texts xs ys h k = record {
  text = h.text ++ k.text;
  undone = λ rest.
      ap (λ (l : List ℕ). unescaped l) (append_assoc xs ys rest) ∙ h.undone (ys ++ rest)
      ∙ ap (λ (o : Option (List ℕ)). behind_text h.text o) (k.undone rest) ∙ behind_both h.text k.text (unescaped rest);
}

piece_text : (piece : Piece) (c : ℕ) → IsPiece piece → piece_character piece ≡ Some c → HasText (piece_spelling piece)
piece_text piece c h e = record {
  text = c ∷ [];
  undone = λ rest. at_piece piece rest h ∙ ap (λ (o : Option ℕ). in_front o (unescaped rest)) e ∙ behind_one c (unescaped rest);
}

parts_text : (IsPart : List ℕ → Type 0) → ((part : List ℕ) → IsPart part → HasText part) → (parts : List (List ℕ)) (cs : List ℕ) → Joins IsPart parts cs → HasText cs
parts_text IsPart each [] cs h = subst HasText (sym h) no_text
parts_text IsPart each (part ∷ parts) cs h =
    subst HasText (sym h.2) (both_texts part h.0 (each part h.1) (parts_text IsPart each parts h.0 h.3))

-- tests of characters

abbrev all_pass : ℕ → (ℕ → Bool) → Bool
all_pass zero test = true
all_pass (suc n) test = test n && all_pass n test

last_or : (n : ℕ) (test : ℕ → Bool) (c : ℕ) → c < suc n → test n ≡ true → (c < n → test c ≡ true) → test c ≡ true
last_or n test c lt last before = grind (arith, last, before)

passes : (n : ℕ) (test : ℕ → Bool) → all_pass n test ≡ true → (c : ℕ) → c < n → test c ≡ true
passes zero test h c lt = absurd (omega arith)
passes (suc n) test h c lt =
    let parts = and_parts (test n) (all_pass n test) h in
    last_or n test c lt parts.0 (passes n test parts.1 c)

abbrev all_below : ℕ → List (ℕ × ℕ) → Bool
all_below n [] = true
all_below n (range ∷ ranges) = nat_lt range.1 n && all_below n ranges

either_way : {P : Type 0} → (x y : Bool) → (x || y) ≡ true → (x ≡ true → P) → (y ≡ true → P) → P
either_way true y h f g = f refl
either_way false y h f g = g h

below_last : (first last n c : ℕ) → nat_lt last n ≡ true → (nat_le first c && nat_le c last) ≡ true → c < n
below_last first last n c h k =
    let parts = and_parts (nat_le first c) (nat_le c last) k in
    let most = leb-true c last parts.1 in
    let less = leb-true (suc last) n h in
    omega arith

in_below : (n : ℕ) (ranges : List (ℕ × ℕ)) (c : ℕ) → all_below n ranges ≡ true → is_in_ranges ranges c ≡ true → c < n
in_below n [] c h k = absurd (cc)
in_below n (range ∷ ranges) c h k =
    let parts = and_parts (nat_lt range.1 n) (all_below n ranges) h in
    either_way (nat_le range.0 c && nat_le c range.1) (is_in_ranges ranges c) k (below_last range.0 range.1 n c parts.0) (in_below n ranges c parts.1)

-- what holds of each character of some ranges
in_ranges_pass : (ranges : List (ℕ × ℕ)) (test : ℕ → Bool) → all_below 128 ranges ≡ true → all_pass 128 (λ c. not (is_in_ranges ranges c) || test c) ≡ true → (c : ℕ) → is_in_ranges ranges c ≡ true → test c ≡ true
in_ranges_pass ranges test few h c k =
    subst (λ (b : Bool). (not b || test c) ≡ true) k (passes 128 (λ c. not (is_in_ranges ranges c) || test c) h c (in_below 128 ranges c few k))

only : (n c : ℕ) → is_in_ranges ((n, n) ∷ []) c ≡ true → c ≡ n
only n c h = either_way (nat_le n c && nat_le c n) false h (λ k. let parts = and_parts (nat_le n c) (nat_le c n) k in let up = leb-true n c parts.0 in let down = leb-true c n parts.1 in omega arith) (λ k. absurd (cc))

-- parts of patterns

abbrev in_turtle : ℕ → ℕ → Bool
in_turtle = test_of turtle_grammar.sets

-- how many characters a pattern has

abbrev size_of : Pattern → ℕ
size_of (one set) = 1
size_of (both p q) = size_of p + size_of q
size_of (either p q) = size_of p
size_of p = 0

abbrev is_sized : Pattern → Bool
is_sized (one set) = true
is_sized (both p q) = is_sized p && is_sized q
is_sized (either p q) = (size_of q == size_of p) && (is_sized p && is_sized q)
is_sized p = false

sized : (test : ℕ → ℕ → Bool) (p : Pattern) → is_sized p ≡ true → (cs : List ℕ) → Matches test p cs → length cs ≡ size_of p
sized test (one set) h cs m = ap (λ (l : List ℕ). length l) m.2
sized test (both p q) h cs m =
    let parts = and_parts (is_sized p) (is_sized q) h in
    let front = sized test p parts.0 m.0 m.2 in
    let back = sized test q parts.1 m.1 m.3 in
    let all : length cs ≡ length m.0 + length m.1 = ap (λ (l : List ℕ). length l) m.4 ∙ length-append m.0 m.1 in
    omega arith
sized test (either p q) h cs (inl m) = sized test p (and_parts (is_sized p) (is_sized q) (and_parts (size_of q == size_of p) (is_sized p && is_sized q) h).1).0 cs m
sized test (either p q) h cs (inr m) =
    let parts = and_parts (size_of q == size_of p) (is_sized p && is_sized q) h in
    sized test q (and_parts (is_sized p) (is_sized q) parts.1).1 cs m ∙ eqb-true (size_of q) (size_of p) parts.0
sized test p h cs m = absurd (cc)

-- The values of digits, by the number of their set: from the first to the last of each range.

abbrev digit_sets : List ℕ
digit_sets = 25 ∷ 26 ∷ 27 ∷ 28 ∷ 29 ∷ 30 ∷ 31 ∷ []

abbrev values : ℕ → List (ℕ × ℕ)
values set =
    if set == 26 then (0, 12) ∷ (14, 15) ∷ []
    else if set == 27 then (13, 13) ∷ []
    else if set == 28 then (1, 15) ∷ []
    else if set == 29 then (0, 0) ∷ []
    else if set == 30 then (1, 1) ∷ []
    else if set == 31 then (0, 7) ∷ []
    else (0, 15) ∷ []

abbrev has_values : CharacterSet → List (ℕ × ℕ) → Bool
has_values (of_ranges ranges) spans = all_below 128 ranges && all_pass 128 (λ c. not (is_in_ranges ranges c) || is_in_ranges spans (hex_value c))
has_values (but_ranges ranges) spans = false

value_in : (set : CharacterSet) (spans : List (ℕ × ℕ)) (c : ℕ) → has_values set spans ≡ true → has set c ≡ true → is_in_ranges spans (hex_value c) ≡ true
value_in (of_ranges ranges) spans c h k =
    let parts = and_parts (all_below 128 ranges) (all_pass 128 (λ c. not (is_in_ranges ranges c) || is_in_ranges spans (hex_value c))) h in
    in_ranges_pass ranges (λ c. is_in_ranges spans (hex_value c)) parts.0 parts.1 c k
value_in (but_ranges ranges) spans c h k = absurd (cc)

abbrev is_valued : ℕ → Bool
is_valued set = has_values (slice_index_or turtle_grammar.sets set (of_ranges [])) (values set)

all_valued : list_all is_valued digit_sets ≡ true
unfolding turtle_grammar
all_valued = refl

-- The bounds of a number behind more digits, from bounds of that before them, pass the test, whichever of their values.
abbrev all_spans : (ℕ → ℕ → Bool) → ℕ → ℕ → Pattern → Bool
all_spans test least most (one set) = is_among digit_sets set && list_all (λ span. test (least * 16 + span.0) (most * 16 + span.1)) (values set)
all_spans test least most (both p q) = all_spans (λ l m. all_spans test l m q) least most p
all_spans test least most (either p q) = all_spans test least most p && all_spans test least most q
all_spans test least most p = false

-- A number that the digits make of the one before them, and bounds that pass the test.
record Reads (test : ℕ → ℕ → Bool) (before : ℕ) (cs : List ℕ) : Type 0 where
  least : ℕ
  number : ℕ
  most : ℕ
  passed : test least most ≡ true
  low : least ≤ number
  high : number ≤ most
  is : (rest : List ℕ) → number_from_digits_after 16 before (map hex_value (cs ++ rest)) ≡ number_from_digits_after 16 number (map hex_value rest)

span_of : (spans : List (ℕ × ℕ)) (test : ℕ × ℕ → Bool) (n : ℕ) → list_all test spans ≡ true → is_in_ranges spans n ≡ true → (span : ℕ × ℕ) × (test span ≡ true) × (span.0 ≤ n) × (n ≤ span.1)
span_of [] test n h k = absurd (cc)
span_of (span ∷ spans) test n h k =
    let parts = and_parts (test span) (list_all test spans) h in
    either_way (nat_le span.0 n && nat_le n span.1) (is_in_ranges spans n) k
    (λ here. let bounds = and_parts (nat_le span.0 n) (nat_le n span.1) here in (span, parts.0, leb-true span.0 n bounds.0, leb-true n span.1 bounds.1))
    (λ other. span_of spans test n parts.1 other)

reads : (p : Pattern) (test : ℕ → ℕ → Bool) (least most before : ℕ) → all_spans test least most p ≡ true → least ≤ before → before ≤ most → (cs : List ℕ) → Matches in_turtle p cs → Reads test before cs
reads (one set) test least most before h low high cs m =
    let parts = and_parts (is_among digit_sets set) (list_all (λ span. test (least * 16 + span.0) (most * 16 + span.1)) (values set)) h in
    let valued = passes_among is_valued digit_sets set all_valued parts.0 in
    let v = span_of (values set) (λ span. test (least * 16 + span.0) (most * 16 + span.1)) (hex_value m.0) parts.1 (value_in (slice_index_or turtle_grammar.sets set (of_ranges [])) (values set) m.0 valued m.1) in
    let up = v.2 in
    let down = v.3 in
    record {
      least = least * 16 + v.0.0;
      number = before * 16 + hex_value m.0;
      most = most * 16 + v.0.1;
      passed = v.1;
      low = omega arith;
      high = omega arith;
      is = λ rest. ap (λ (l : List ℕ). number_from_digits_after 16 before (map hex_value (l ++ rest))) m.2;
    }
reads (both p q) test least most before h low high cs m =
    let x = reads p (λ l m. all_spans test l m q) least most before h low high m.0 m.2 in
    let y = reads q test x.least x.most x.number x.passed x.low x.high m.1 m.3 in
    record {
      least = y.least;
      number = y.number;
      most = y.most;
      passed = y.passed;
      low = y.low;
      high = y.high;
      is = λ rest.
          ap (λ (l : List ℕ). number_from_digits_after 16 before (map hex_value l)) (ap (λ (l : List ℕ). l ++ rest) m.4 ∙ append_assoc m.0 m.1 rest)
          ∙ x.is (m.1 ++ rest) ∙ y.is rest;
    }
reads (either p q) test least most before h low high cs (inl m) =
    reads p test least most before (and_parts (all_spans test least most p) (all_spans test least most q) h).0 low high cs m
reads (either p q) test least most before h low high cs (inr m) =
    reads q test least most before (and_parts (all_spans test least most p) (all_spans test least most q) h).1 low high cs m
reads p test least most before h low high cs m = absurd (cc)

-- code points

-- all numbers between the bounds are characters
abbrev are_characters : ℕ → ℕ → Bool
are_characters least most = nat_lt most 0xD800 || (nat_le 0xE000 least && nat_le most 0x10FFFF)

point_is : (least n most : ℕ) → are_characters least most ≡ true → least ≤ n → n ≤ most → character_at n ≡ Some n
point_is least n most h low high =
    let e : is_character n ≡ true = grind (arith, nat_tests, h, low, high) in
    subst (λ (b : Bool). (if b then Some n else None) ≡ Some n) (sym e) refl

-- so many digits write the code point of a character
record WriteCharacter (count : ℕ) (digits : List ℕ) : Type 0 where
  character : ℕ
  is : character_at (hex_number digits) ≡ Some character
  counted : length digits ≡ count

writes : (p : Pattern) → all_spans are_characters 0 0 p ≡ true → is_sized p ≡ true → (cs : List ℕ) → Matches in_turtle p cs → WriteCharacter (size_of p) cs
writes p h k cs m =
    let r = reads p are_characters 0 0 0 h (omega arith) (omega arith) cs m in
    record {
      character = r.number;
      is = ap (λ (l : List ℕ). character_at (hex_number l)) (sym (append-nil cs)) ∙ ap (λ (n : ℕ). character_at n) (r.is []) ∙ point_is r.least r.number r.most r.passed r.low r.high;
      counted = sized in_turtle p k cs m;
    }

-- pieces of strings

plain_text : (set : ℕ) (cs : List ℕ) → in_turtle set 0x5C ≡ false → Matches in_turtle (one set) cs → HasText cs
plain_text set cs e h = subst HasText (sym h.2) (piece_text (plain h.0) h.0 (differs (in_turtle set) h.0 0x5C h.1 e) refl)

backslash_is : (c : ℕ) → in_turtle 4 c ≡ true → c ≡ 0x5C
unfolding turtle_grammar
backslash_is c h = only 0x5C c h

small_u_is : (c : ℕ) → in_turtle 47 c ≡ true → c ≡ 0x75
unfolding turtle_grammar
small_u_is c h = only 0x75 c h

capital_u_is : (c : ℕ) → in_turtle 48 c ≡ true → c ≡ 0x55
unfolding turtle_grammar
capital_u_is c h = only 0x55 c h

echar_text : (cs : List ℕ) → Matches in_turtle (both (one 4) (one 34)) cs → HasText cs
unfolding turtle_grammar
echar_text cs h =
    let c = h.3.0 in
    let is : cs ≡ 0x5C ∷ c ∷ [] =
    h.4 ∙ ap₂ (λ (f b : List ℕ). f ++ b) h.2.2 h.3.2 ∙ ap (λ (b : ℕ). b ∷ c ∷ []) (backslash_is h.2.0 h.2.1) in
    let small = differs (in_turtle 34) c 0x75 h.3.1 refl in
    let capital = differs (in_turtle 34) c 0x55 h.3.1 refl in
    subst HasText (sym is) (piece_text (echar c) (string_escape_of c) (small, capital) refl)

-- a backslash and the letter of this set
begins_with : (set letter : ℕ) → ((c : ℕ) → in_turtle set c ≡ true → c ≡ letter) → (cs front digits : List ℕ)
    → cs ≡ front ++ digits → Matches in_turtle (both (one 4) (one set)) front → cs ≡ 0x5C ∷ letter ∷ digits
begins_with set letter is_letter cs front digits e h =
    e ∙ ap (λ (l : List ℕ). l ++ digits) (h.4 ∙ ap₂ (λ (f b : List ℕ). f ++ b) h.2.2 h.3.2)
    ∙ ap₂ (λ (b l : ℕ). b ∷ l ∷ digits) (backslash_is h.2.0 h.2.1) (is_letter h.3.0 h.3.1)

escape_text : (cs : List ℕ) → Matches in_turtle string_escape cs → HasText cs
escape_text cs (inl h) = echar_text cs h
escape_text cs (inr (inl h)) =
    let digits = writes character_digits refl refl h.1 h.3 in
    subst HasText (sym (begins_with 47 0x75 small_u_is cs h.0 h.1 h.4 h.2))
    (piece_text (uchar h.1) digits.character digits.counted digits.is)
escape_text cs (inr (inr h)) =
    let digits = writes long_character_digits refl refl h.1 h.3 in
    subst HasText (sym (begins_with 48 0x55 capital_u_is cs h.0 h.1 h.4 h.2))
    (piece_text (long_uchar h.1) digits.character digits.counted digits.is)

-- a character or an escape
character_text : (set : ℕ) → in_turtle set 0x5C ≡ false → (cs : List ℕ) → Matches in_turtle (either (one set) string_escape) cs → HasText cs
character_text set e cs (inl h) = plain_text set cs e h
character_text set e cs (inr h) = escape_text cs h

-- none, one or two quotes
quotes_text : (set : ℕ) → in_turtle set 0x5C ≡ false → (cs : List ℕ) → Matches in_turtle (either (either (one set) (both (one set) (one set))) empty) cs → HasText cs
quotes_text set e cs (inl (inl h)) = plain_text set cs e h
quotes_text set e cs (inl (inr h)) = subst HasText (sym h.4) (both_texts h.0 h.1 (plain_text set h.0 e h.2) (plain_text set h.1 e h.3))
quotes_text set e cs (inr h) = subst HasText (sym h) no_text

long_character_text : (quote set : ℕ) → in_turtle quote 0x5C ≡ false → in_turtle set 0x5C ≡ false → (cs : List ℕ) → Matches in_turtle (both (either (either (one quote) (both (one quote) (one quote))) empty) (either (one set) string_escape)) cs → HasText cs
long_character_text quote set e f cs h =
    subst HasText (sym h.4) (both_texts h.0 h.1 (quotes_text quote e h.0 h.2) (character_text set f h.1 h.3))

-- whole strings

inside_quotes : (count : ℕ) (front middle back : List ℕ) → length front ≡ count → length back ≡ count → inside count (front ++ (middle ++ back)) ≡ middle
inside_quotes count front middle back h k =
    let sizes : length (front ++ (middle ++ back)) ≡ length front + (length middle + length back) =
    length-append front (middle ++ back) ∙ ap (λ (n : ℕ). length front + n) (length-append middle back) in
    let many_inside : length (front ++ (middle ++ back)) - 2 * count ≡ length middle = omega arith in
    ap (λ (n : ℕ). take n (drop count (front ++ (middle ++ back)))) many_inside
    ∙ ap (λ (n : ℕ). take (length middle) (drop n (front ++ (middle ++ back)))) (sym h)
    ∙ ap (λ (l : List ℕ). take (length middle) l) (drop-append_seam front (middle ++ back)) ∙ take-append_seam middle back

undone_whole : (cs : List ℕ) → HasText cs → unescaped cs ≡ Some (string_text cs)
undone_whole cs h =
    let is : unescaped cs ≡ Some (h.text ++ []) = ap (λ (l : List ℕ). unescaped l) (sym (append-nil cs)) ∙ h.undone [] in
    is ∙ ap (λ (l : List ℕ). Some l) (sym (ap (λ (o : Option (List ℕ)). unwrap_or o []) is))

undone_inside : (count : ℕ) (cs front middle back : List ℕ) → cs ≡ front ++ (middle ++ back) → length front ≡ count → length back ≡ count → HasText middle → IsUndone count cs
undone_inside count cs front middle back e h k t =
    let is : inside count cs ≡ middle = ap (λ (l : List ℕ). inside count l) e ∙ inside_quotes count front middle back h k in
    subst (λ (l : List ℕ). unescaped l ≡ Some (string_text l)) (sym is) (undone_whole middle t)

abbrev long_part : ℕ → ℕ → Pattern
long_part quote set =
    both (either (either (one quote) (both (one quote) (one quote))) empty) (either (one set) string_escape)

abbrev quoted : Pattern → Pattern → Pattern
quoted quotes part = both quotes (both (many part) quotes)

quoted_string : (quotes part : Pattern) → is_sized quotes ≡ true → ((cs : List ℕ) → Matches in_turtle part cs → HasText cs)
    → (cs : List ℕ) → Matches in_turtle (quoted quotes part) cs → IsUndone (size_of quotes) cs
quoted_string quotes part sizes each cs h =
    let m = h.3 in
    undone_inside (size_of quotes) cs h.0 m.0 m.1 (h.4 ∙ ap (λ (l : List ℕ). h.0 ++ l) m.4)
    (sized in_turtle quotes sizes h.0 h.2) (sized in_turtle quotes sizes m.1 m.3)
    (parts_text (Matches in_turtle part) each m.2.0 m.0 m.2.1)

-- terminals of a kind

abbrev of_kind : ℕ → List Terminal → List Terminal
of_kind kind [] = []
of_kind kind (x ∷ xs) = if x.kind == kind then x ∷ of_kind kind xs else of_kind kind xs

is_of_kind : (test : ℕ → ℕ → Bool) (kind : ℕ) (cs : List ℕ) (x : Terminal) (xs : List Terminal) (same : Bool) → x.kind == kind ≡ same → IsLexemeOf test xs kind cs → IsLexemeOf test (if same then x ∷ xs else xs) kind cs
is_of_kind test kind cs x xs true e h = inr h
is_of_kind test kind cs x xs false e h = h

only_of_kind : (test : ℕ → ℕ → Bool) (kind : ℕ) (cs : List ℕ) (xs : List Terminal) → IsLexemeOf test xs kind cs → IsLexemeOf test (of_kind kind xs) kind cs
only_of_kind test kind cs [] h = h
only_of_kind test kind cs (x ∷ xs) (inl h) =
    subst (λ (b : Bool). IsLexemeOf test (if b then x ∷ of_kind kind xs else of_kind kind xs) kind cs) (sym (eq-eqb x.kind kind h.0)) (inl h)
only_of_kind test kind cs (x ∷ xs) (inr h) = is_of_kind test kind cs x (of_kind kind xs) (x.kind == kind) refl (only_of_kind test kind cs xs h)

only_one : (test : ℕ → ℕ → Bool) (kind : ℕ) (pattern : Pattern) (cs : List ℕ) → IsLexemeOf test (record { kind = kind; pattern = pattern } ∷ []) kind cs → Matches test pattern cs
only_one test kind pattern cs (inl h) = h.1
only_one test kind pattern cs (inr h) = absurd h

-- strings of each kind

abbrev three : ℕ → Pattern
three quote = both (one quote) (both (one quote) (one quote))

string_of_kind : (kind : ℕ) (quotes part : Pattern)
    → of_kind kind turtle_grammar.terminals ≡ record { kind = kind; pattern = quoted quotes part } ∷ []
    → is_sized quotes ≡ true → ((cs : List ℕ) → Matches in_turtle part cs → HasText cs)
    → (cs : List ℕ) → IsLexeme turtle_grammar kind cs → IsUndone (size_of quotes) cs
string_of_kind kind quotes part is sizes each cs h =
    let m = only_of_kind in_turtle kind cs turtle_grammar.terminals h in
    quoted_string quotes part sizes each cs
    (only_one in_turtle kind (quoted quotes part) cs (subst (λ (xs : List Terminal). IsLexemeOf in_turtle xs kind cs) is m))

pub quote_is_undone : (cs : List ℕ) → IsLexeme turtle_grammar STRING_LITERAL_QUOTE cs → IsUndone 1 cs
unfolding turtle_grammar
quote_is_undone =
    string_of_kind STRING_LITERAL_QUOTE (one 5) (either (one 36) string_escape) refl refl (character_text 36 refl)

pub single_quote_is_undone : (cs : List ℕ) → IsLexeme turtle_grammar STRING_LITERAL_SINGLE_QUOTE cs → IsUndone 1 cs
unfolding turtle_grammar
single_quote_is_undone =
    string_of_kind STRING_LITERAL_SINGLE_QUOTE (one 6) (either (one 37) string_escape) refl refl (character_text 37 refl)

pub long_quote_is_undone : (cs : List ℕ) → IsLexeme turtle_grammar STRING_LITERAL_LONG_QUOTE cs → IsUndone 3 cs
unfolding turtle_grammar
long_quote_is_undone =
    string_of_kind STRING_LITERAL_LONG_QUOTE (three 5) (long_part 5 38) refl refl (long_character_text 5 38 refl refl)

pub long_single_quote_is_undone : (cs : List ℕ) → IsLexeme turtle_grammar STRING_LITERAL_LONG_SINGLE_QUOTE cs → IsUndone 3 cs
unfolding turtle_grammar
long_single_quote_is_undone =
    string_of_kind STRING_LITERAL_LONG_SINGLE_QUOTE (three 6) (long_part 6 39) refl refl (long_character_text 6 39 refl refl)
