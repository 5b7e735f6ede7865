-- The sets of the grammars are the classes of characters of names and IRIs.
use Rattle.std.proofs.Common.{◌≡◌, ◌↔◌, ℕ, Bool, true, false, not, ◌&&◌, ◌||◌, List, [], ◌∷◌, ◌++◌, refl, sym, ap, ◌∙◌, subst, arith}
use Rattle.std.specs.Prelude.{◌==◌, codes, nat_le, nat_lt}
use Rattle.std.specs.Char.{is_ascii_alphabetic, is_ascii_digit, is_ascii_hexdigit}
use Rattle.std.proofs.Math.Bool.{or-false, or_assoc}
use Rattle.std.proofs.lemmas.Bool.{both_ways, eqb-true, false_from_ne_true, le-leb, leb-false, leb-true, lt-ltb, le-ltb}
use Rattle.owl_characters.specs.Iri.{is_among, is_iri_character}
use Rattle.owl_characters.specs.Names.{base_ranges, in_ranges, is_base, is_colon, is_dot, is_escapable, part_ranges, start_ranges}
use Rattle.owl_lexer.specs.Grammars.{CharacterSet, is_in_ranges, test_of}
use Rattle.owl_lexer.specs.Grammars.CharacterSet.{inside}
use Rattle.owl_lexer.proofs.PatternLaws.{Agree, agree_at, each_is, is_index, matches_as, uses_only, word_of}
use Rattle.owl_lexer.specs.Patterns.{Matches, Pattern}
use Rattle.owl_lexer.specs.Splitting.{is_comment_start, is_line_end, is_space}
use Rattle.owl_tokens.specs.FunctionalGrammar.{functional_grammar}
use Rattle.owl_tokens.specs.ManchesterGrammar.{manchester_grammar}
use Rattle.owl_tokens.specs.SharedPatterns.{each_of, shared_sets}
use Rattle.owl_tokens.specs.Tokens.{is_escaped}

-- What the sets that the grammars share are, in words.
abbrev pub shared_words : List (ℕ → Bool)
shared_words =
    is_space
    ∷ is_comment_start
    ∷ (λ c. not (is_line_end c))
    ∷ is_among (codes "<")
    ∷ is_among (codes ">")
    ∷ is_ascii_alphabetic
    ∷ is_ascii_digit
    ∷ is_among (codes "+-.")
    ∷ is_colon
    ∷ is_iri_character
    ∷ is_base
    ∷ in_ranges start_ranges
    ∷ in_ranges part_ranges
    ∷ is_dot
    ∷ is_among (codes "%")
    ∷ is_ascii_hexdigit
    ∷ is_among (codes "\\")
    ∷ is_escapable
    ∷ is_among (codes "\"")
    ∷ (λ c. not (is_escaped c))
    ∷ is_escaped
    ∷ is_among (codes "@")
    ∷ is_among (codes "-")
    ∷ is_among (codes "(")
    ∷ is_among (codes ")")
    ∷ is_among (codes "^")
    ∷ is_among (codes "_")
    ∷ []

abbrev pub shared : ℕ → ℕ → Bool
shared = word_of shared_words

-- The tests of the sets that the grammars share.
pub record SharedTests (test : ℕ → ℕ → Bool) : Type 0 where
  pub agrees : (set c : ℕ) → is_index shared_words set ≡ true → test set c ≡ shared set c
  pub iri_character : (c : ℕ) → test 9 c ≡ is_iri_character c

-- a pattern over the shared sets
pub as_shared : (test : ℕ → ℕ → Bool) → SharedTests test → (p : Pattern) → uses_only (is_index shared_words) p ≡ true → (cs : List ℕ) → Matches test p cs ↔ Matches shared p cs
as_shared test t p h cs = (
  matches_as (is_index shared_words) test shared t.agrees p h cs,
  matches_as (is_index shared_words) shared test (λ set c k. sym (t.agrees set c k)) p h cs,
)

-- characters that differ

pub apart : (f : ℕ → Bool) (x c : ℕ) → f x ≡ false → f c ≡ true → (x == c) ≡ false
apart f x c fails holds = false_from_ne_true (x == c) (λ e. both_ways (f x) fails (subst (λ (y : ℕ). f y ≡ true) (sym (eqb-true x c e)) holds))

pub differs : (f : ℕ → Bool) (c x : ℕ) → f c ≡ true → f x ≡ false → (c == x) ≡ false
differs f c x holds fails = grind (arith, holds, fails)

-- ranges

pub ranges_are : (ranges : List (ℕ × ℕ)) (c : ℕ) → is_in_ranges ranges c ≡ in_ranges ranges c
ranges_are [] c = refl
ranges_are (range ∷ ranges) c = ap (λ b. (nat_le range.0 c && nat_le c range.1) || b) (ranges_are ranges c)

letters : (c : ℕ) → is_in_ranges ((0x41, 0x5A) ∷ (0x61, 0x7A) ∷ []) c ≡ is_ascii_alphabetic c
letters c = ap (λ b. (nat_le 65 c && nat_le c 90) || b) (or-false (nat_le 97 c && nat_le c 122))

digits : (c : ℕ) → is_in_ranges ((0x30, 0x39) ∷ []) c ≡ is_ascii_digit c
digits c = or-false (nat_le 48 c && nat_le c 57)

hexadecimals : (c : ℕ) → is_in_ranges ((0x30, 0x39) ∷ (0x41, 0x46) ∷ (0x61, 0x66) ∷ []) c ≡ is_ascii_hexdigit c
hexadecimals c =
    ap (λ b. (nat_le 48 c && nat_le c 57) || ((nat_le 65 c && nat_le c 70) || b)) (or-false (nat_le 97 c && nat_le c 102))
    ∙ sym (or_assoc (nat_le 48 c && nat_le c 57) (nat_le 65 c && nat_le c 70) (nat_le 97 c && nat_le c 102))

-- what no IRI has behind its scheme
abbrev iri_marks : List ℕ
iri_marks = codes "<>\"{}|^`\\"

iri_characters : (c : ℕ) → not (is_in_ranges ((0, 32) ∷ each_of iri_marks) c) ≡ is_iri_character c
iri_characters c =
    ap (λ b. not ((nat_le 0 c && nat_le c 32) || b)) (each_is iri_marks c)
    ∙ ap (λ b. not ((b && nat_le c 32) || is_among iri_marks c)) (le-leb 0 c (omega arith))
    ∙ at (nat_le c 32) refl
  where
    at : (low : Bool) → nat_le c 32 ≡ low → not (low || is_among iri_marks c) ≡ (nat_lt 32 c && not (is_among iri_marks c))
    at true e = let le = leb-true c 32 e in ap (λ b. b && not (is_among iri_marks c)) (sym (le-ltb 32 c (omega arith)))
    at false e = let lt = leb-false c 32 e in ap (λ b. b && not (is_among iri_marks c)) (sym (lt-ltb 32 c (omega arith)))

infixr 4 ◌also◌
pub ◌also◌ : {A B : Type 0} → A → B → A × B
a also b = (a, b)

-- whatever sets a grammar has behind the shared ones
agree_before : (sets : List CharacterSet) (words : List (ℕ → Bool)) → Agree sets words → Agree (shared_sets ++ sets) (shared_words ++ words)
agree_before sets words a =
    each_is (32 ∷ 9 ∷ 10 ∷ 13 ∷ [])
    also each_is (codes "#")
    also (λ c. ap not (each_is (10 ∷ 13 ∷ []) c))
    also each_is (codes "<")
    also each_is (codes ">")
    also letters
    also digits
    also each_is (codes "+-.")
    also each_is (codes ":")
    also iri_characters
    also ranges_are base_ranges
    also ranges_are start_ranges
    also ranges_are part_ranges
    also each_is (codes ".")
    also each_is (codes "%")
    also hexadecimals
    also each_is (codes "\\")
    also each_is (codes "_~.-!$&'()*+,;=/?#@%")
    also each_is (codes "\"")
    also (λ c. ap not (each_is (codes "\"\\") c))
    also each_is (codes "\"\\")
    also each_is (codes "@")
    also each_is (codes "-")
    also each_is (codes "(")
    also each_is (codes ")")
    also each_is (codes "^")
    also each_is (codes "_")
    also a

shared_tests : (own : List CharacterSet) → SharedTests (test_of (shared_sets ++ own))
shared_tests own =
    let at = agree_at shared_sets own shared_words (agree_before [] [] tt) in
    record { agrees = at; iri_character = λ c. at 9 c refl }

pub functional_tests : SharedTests (test_of functional_grammar.sets)
unfolding functional_grammar
functional_tests = shared_tests (inside (each_of (codes "=")) ∷ [])

-- the sets of Manchester Syntax behind the shared ones, and in words

abbrev manchester_own : List CharacterSet
manchester_own =
    inside (each_of (codes "+")) ∷ inside (each_of (codes "=")) ∷ inside (each_of (codes "{")) ∷ inside (each_of (codes "}"))
    ∷ inside (each_of (codes "[")) ∷ inside (each_of (codes "]")) ∷ inside (each_of (codes ",")) ∷ []

abbrev manchester_own_words : List (ℕ → Bool)
manchester_own_words =
    is_among (codes "+") ∷ is_among (codes "=") ∷ is_among (codes "{") ∷ is_among (codes "}") ∷ is_among (codes "[")
    ∷ is_among (codes "]") ∷ is_among (codes ",") ∷ []

abbrev pub manchester_words : List (ℕ → Bool)
manchester_words = shared_words ++ manchester_own_words

manchester_own_agree : Agree manchester_own manchester_own_words
manchester_own_agree =
    each_is (codes "+")
    also each_is (codes "=")
    also each_is (codes "{")
    also each_is (codes "}")
    also each_is (codes "[")
    also each_is (codes "]")
    also each_is (codes ",")
    also tt

pub manchester_agrees : (set c : ℕ) → is_index manchester_words set ≡ true → test_of manchester_grammar.sets set c ≡ word_of manchester_words set c
unfolding manchester_grammar
manchester_agrees = agree_at manchester_grammar.sets [] manchester_words (agree_before manchester_own manchester_own_words manchester_own_agree)

pub manchester_tests : SharedTests (test_of manchester_grammar.sets)
unfolding manchester_grammar
manchester_tests = shared_tests manchester_own
