-- What is written for a token is a lexeme that stands for it. Sets of characters go by their places
-- in `turtle_sets`.
use Rattle.std.proofs.Common.{◌≡◌, ◌+◌, ◌-◌, inl, inr, ℕ, Bool, true, false, not, ◌||◌, if◌then◌else◌, Option, Some, List, [], ◌∷◌, ◌++◌, length, take, codes, refl, sym, ap, ◌∙◌, arith}
use Rattle.std.specs.Prelude.{◌==◌, flat_map, unwrap_or}
use Rattle.std.specs.Char.{is_ascii_digit}
use Rattle.std.specs.Int.{is_in_range}
use Rattle.std.proofs.Math.Seq.{take-append_seam}
use Rattle.std.proofs.lemmas.Bool.{both_ways, cases_Bool, eqb-true, or_cases, or_left, or_right}
use Rattle.std.proofs.lemmas.List.{append_assoc, length-append}
use Rattle.owl_characters.specs.Iri.{AllAre, IsIri, is_among, is_iri_character}
use Rattle.owl_characters.proofs.IriLaws.{iri_characters}
use Rattle.owl_characters.proofs.LanguageTagLaws.{tag_from_fits}
use Rattle.owl_characters.specs.Names.{IsLabel, IsLanguageTag, IsPrefixName, base_ranges, ends_in_dot, in_ranges, is_base, is_dot, is_inner, is_label_start, is_part, is_start, part_ranges, start_ranges}
use Rattle.owl_atom.specs.Prefixes.{IsPlainLocal, is_plain_character, is_plain_start}
use Rattle.owl_lexer.specs.Grammars.{IsLexeme, test_of}
use Rattle.owl_lexer.proofs.PatternLaws.{each_is}
use Rattle.owl_lexer.specs.Patterns.{Matches, Pattern}
use Rattle.owl_lexer.specs.Patterns.Pattern.{empty, one, both, either, many}
use Rattle.owl_tokens.specs.CharacterLaws.{differs, functional_tests, ranges_are}
use Rattle.owl_tokens.specs.FunctionalGrammar.{functional_grammar}
use Rattle.owl_tokens.specs.SharedPatterns.{language_tag}
use Rattle.owl_tokens.specs.TagPatternLaws.{matches_tag}
use Rattle.owl_writing.proofs.PlainLocalLaws.{spells_nothing, spells_plain}
use Rattle.owl_writing.specs.Terms.{full_iri}
use Rattle.ttl_tokens.proofs.EscapeLaws.{at_piece}
use Rattle.ttl_tokens.specs.EscapedText.Piece.{plain, echar}
use Rattle.ttl_tokens.specs.Escapes.{in_front, string_escape as escape_of, unescaped}
use Rattle.ttl_tokens.proofs.NameLaws.{local_is_read, prefix_is_read}
use Rattle.ttl_tokens.proofs.PatternWithinLaws.{matches_within}
use Rattle.ttl_tokens.specs.TurtleGrammar.{langtag, string_escape, turtle_grammar, uchar}
use Rattle.ttl_tokens.specs.declared.kinds.TheConstants.{BLANK_NODE_LABEL, CIRCUMFLEXES, DOT, IRIREF, LANGTAG, PREFIXED_NAME, STRING_LITERAL_QUOTE}
use Rattle.ttl_tokens.specs.TurtleLaws.{turtle_knows}
use Rattle.ttl_tokens.specs.TurtleSpellings.{Spells}
use Rattle.ttl_tokens.specs.TurtleTable.{turtle_table}
use Rattle.ttl_tokens.specs.TurtleValues.{inside, local_text}
use Rattle.ttl_tokens.specs.declared.token.Symbol.TheVariants.{Carets, Dot}
use Rattle.ttl_tokens.specs.declared.token.Token.TheVariants.{At, Iri, Label, Name, Str, Symbol}
use Rattle.ttl_write.specs.Text.{character_text, string_text}

abbrev in_turtle : ℕ → ℕ → Bool
in_turtle = test_of turtle_grammar.sets

abbrev in_functional : ℕ → ℕ → Bool
in_functional = test_of functional_grammar.sets

-- signs

pub spells_dot : Spells (Symbol Dot) (codes ".")
unfolding turtle_table
spells_dot = (DOT, (turtle_knows DOT (codes ".")).0 refl, refl)

pub spells_carets : Spells (Symbol Carets) (codes "^^")
unfolding turtle_table
spells_carets = (CIRCUMFLEXES, (turtle_knows CIRCUMFLEXES (codes "^^")).0 refl, refl)

-- what stands between two marks

between_marks : (a b : ℕ) (cs : List ℕ) → inside 1 (a ∷ (cs ++ b ∷ [])) ≡ cs
between_marks a b cs =
    let sizes : length (cs ++ b ∷ []) ≡ length cs + 1 = length-append cs (b ∷ []) in
    let count : length (a ∷ (cs ++ b ∷ [])) - 2 ≡ length cs = omega arith in
    ap (λ (n : ℕ). take n (cs ++ b ∷ [])) count ∙ take-append_seam cs (b ∷ [])

-- characters that each match the first of two patterns
each_first : (test : ℕ → ℕ → Bool) (set : ℕ) (q : Pattern) (f : ℕ → Bool) → ((c : ℕ) → f c ≡ true → test set c ≡ true) → (cs : List ℕ) → AllAre f cs → Matches test (many (either (one set) q)) cs
each_first test set q f passes [] a = ([], refl)
each_first test set q f passes (c ∷ cs) a =
    let o = each_first test set q f passes cs a.1 in
    ((c ∷ []) ∷ o.0, (cs, inl (c, passes c a.0, refl), refl, o.1))

-- IRIs

in_iri : (c : ℕ) → is_iri_character c ≡ true → in_turtle 35 c ≡ true
unfolding turtle_grammar functional_grammar
in_iri c h = functional_tests.iri_character c ∙ h

not_escaped : (c : ℕ) → is_iri_character c ≡ true → (c == 0x5C) ≡ false
not_escaped c h = differs is_iri_character c 0x5C h refl

unescaped_iri : (cs : List ℕ) → AllAre is_iri_character cs → unescaped cs ≡ Some cs
unescaped_iri [] a = refl
unescaped_iri (c ∷ cs) a = at_piece (plain c) cs (not_escaped c a.0) ∙ ap (λ (o : Option (List ℕ)). in_front (Some c) o) (unescaped_iri cs a.1)

iri_lexeme : (cs : List ℕ) → AllAre is_iri_character cs → IsLexeme turtle_grammar IRIREF (60 ∷ (cs ++ 62 ∷ []))
unfolding turtle_grammar
iri_lexeme cs a = inr (inr (inl (refl, (60 ∷ [], cs ++ 62 ∷ [], (60, refl, refl), (cs, 62 ∷ [], each_first in_turtle 35 uchar is_iri_character in_iri cs a, (62, refl, refl), refl), refl))))

pub spells_iri : (iri : List ℕ) → IsIri iri → Spells (Iri (Some iri)) (full_iri iri)
spells_iri iri h =
    let a = iri_characters iri h in
    (IRIREF, iri_lexeme iri a, ap (λ (cs : List ℕ). Some (Iri (unescaped cs))) (between_marks 60 62 iri) ∙ ap (λ (o : Option (List ℕ)). Some (Iri o)) (unescaped_iri iri a))

-- any number of characters and a last one

abbrev LastIs : (ℕ → Bool) → List ℕ → Type 0
LastIs g [] = Unit {0}
LastIs g (c ∷ []) = g c ≡ true
LastIs g (c ∷ d ∷ cs) = LastIs g (d ∷ cs)

module _ (inner last : Pattern) (f g : ℕ → Bool) (is_inner_one : (c : ℕ) → f c ≡ true → Matches in_turtle inner (c ∷ [])) (is_last_one : (c : ℕ) → g c ≡ true → Matches in_turtle last (c ∷ [])) where
  to_last : (c : ℕ) (cs : List ℕ) → AllAre f (c ∷ cs) → LastIs g (c ∷ cs) → Matches in_turtle (both (many inner) last) (c ∷ cs)
  to_last c [] a l = ([], c ∷ [], ([], refl), is_last_one c l, refl)
  to_last c (d ∷ cs) a l =
      let o = to_last d cs a.1 l in
      (c ∷ o.0, o.1, ((c ∷ []) ∷ o.2.0, (o.0, is_inner_one c a.0, refl, o.2.1)), o.3, ap (λ (x : List ℕ). c ∷ x) o.4)

  end_matches : (cs : List ℕ) → AllAre f cs → LastIs g cs → Matches in_turtle (either (both (many inner) last) empty) cs
  end_matches [] a l = inr refl
  end_matches (c ∷ cs) a l = inl (to_last c cs a l)

-- characters of names

base_matches : (c : ℕ) → is_base c ≡ true → in_turtle 24 c ≡ true
unfolding turtle_grammar
base_matches c h = ranges_are base_ranges c ∙ h

underscore_matches : (c : ℕ) → in_ranges start_ranges c ≡ true → in_turtle 2 c ≡ true
unfolding turtle_grammar
underscore_matches c h = ranges_are start_ranges c ∙ h

hyphen_matches : (c : ℕ) → is_in_range 0x2D 0x2D c ≡ true → in_turtle 3 c ≡ true
unfolding turtle_grammar
hyphen_matches c h = ap (λ (b : Bool). b || false) h

digit_matches : (c : ℕ) → is_ascii_digit c ≡ true → in_turtle 20 c ≡ true
unfolding turtle_grammar
digit_matches c h = ap (λ (b : Bool). b || false) h

abbrev marks : List (ℕ × ℕ)
marks = (0xB7, 0xB7) ∷ (0x300, 0x36F) ∷ (0x203F, 0x2040) ∷ []

mark_matches : (c : ℕ) → in_ranges marks c ≡ true → in_turtle 32 c ≡ true
unfolding turtle_grammar
mark_matches c h = ranges_are marks c ∙ h

-- PN_CHARS_U, PN_CHARS, and what may stand inside of a name
abbrev start : Pattern
start = either (one 24) (one 2)

abbrev part : Pattern
part = either start (either (one 3) (either (one 20) (one 32)))

start_matches : (c : ℕ) → is_start c ≡ true → Matches in_turtle start (c ∷ [])
start_matches c h = elim (or_cases (is_base c) (in_ranges start_ranges c) h) as (λ _. Matches in_turtle start (c ∷ [])) [
  | inl x ↦ inl (c, base_matches c x, refl)
  | inr x ↦ inr (c, underscore_matches c x, refl)
]

part_matches : (c : ℕ) → is_part c ≡ true → Matches in_turtle part (c ∷ [])
part_matches c h = elim (or_cases (is_start c) (in_ranges part_ranges c) h) as (λ _. Matches in_turtle part (c ∷ [])) [
  | inl x ↦ inl (start_matches c x)
  | inr x ↦ elim (or_cases (is_in_range 0x2D 0x2D c) (is_in_range 0x30 0x39 c || in_ranges marks c) x) as (λ _. Matches in_turtle part (c ∷ [])) [
    | inl y ↦ inr (inl (c, hyphen_matches c y, refl))
    | inr y ↦ elim (or_cases (is_in_range 0x30 0x39 c) (in_ranges marks c) y) as (λ _. Matches in_turtle part (c ∷ [])) [
      | inl z ↦ inr (inr (inl (c, digit_matches c z, refl)))
      | inr z ↦ inr (inr (inr (c, mark_matches c z, refl)))
    ]
  ]
]

dot_matches : (c : ℕ) → is_dot c ≡ true → in_turtle 0 c ≡ true
unfolding turtle_grammar
dot_matches c h = elim (or_cases (0x2E == c) false h) as (λ _. in_turtle 0 c ≡ true) [
  | inl e ↦ ap (in_turtle 0) (sym (eqb-true 0x2E c e))
  | inr e ↦ absurd (cc)
]

inner_matches : (c : ℕ) → is_inner c ≡ true → Matches in_turtle (either part (one 0)) (c ∷ [])
inner_matches c h = elim (or_cases (is_part c) (is_dot c) h) as (λ _. Matches in_turtle (either part (one 0)) (c ∷ [])) [
  | inl x ↦ inl (part_matches c x)
  | inr x ↦ inr (c, dot_matches c x, refl)
]

-- no dot at the end
last_is_part : (b c : ℕ) (cs : List ℕ) → AllAre is_inner (c ∷ cs) → ends_in_dot (b ∷ c ∷ cs) ≡ false → LastIs is_part (c ∷ cs)
last_is_part b c [] a e = elim (or_cases (is_part c) (is_dot c) a.0) as (λ _. is_part c ≡ true) [
  | inl x ↦ x
  | inr x ↦ absurd (both_ways (is_dot c) e x)
]
last_is_part b c (d ∷ cs) a e = last_is_part c d cs a.1 e

name_end : (b : ℕ) (cs : List ℕ) → AllAre is_inner cs → ends_in_dot (b ∷ cs) ≡ false → Matches in_turtle (either (both (many (either part (one 0))) part) empty) cs
name_end b [] a e = inr refl
name_end b (c ∷ cs) a e = end_matches (either part (one 0)) part is_inner is_part inner_matches part_matches (c ∷ cs) a (last_is_part b c cs a e)

-- labels

label_start_matches : (c : ℕ) → is_label_start c ≡ true → Matches in_turtle (either start (one 20)) (c ∷ [])
label_start_matches c h = elim (or_cases (is_start c) (is_ascii_digit c) h) as (λ _. Matches in_turtle (either start (one 20)) (c ∷ [])) [
  | inl x ↦ inl (start_matches c x)
  | inr x ↦ inr (c, digit_matches c x, refl)
]

label_lexeme : (c : ℕ) (cs : List ℕ) → IsLabel (c ∷ cs) → IsLexeme turtle_grammar BLANK_NODE_LABEL (95 ∷ 58 ∷ c ∷ cs)
unfolding turtle_grammar
label_lexeme c cs h =
    inr (inr (inr (inr (inl (refl, (95 ∷ 58 ∷ [], c ∷ cs, (95 ∷ [], 58 ∷ [], (95, refl, refl), (58, refl, refl), refl), (c ∷ [], cs, label_start_matches c h.0, name_end c cs h.1 h.2, refl), refl))))))

pub spells_label : (label : List ℕ) → IsLabel label → Spells (Label label) (codes "_:" ++ label)
spells_label [] h = absurd h
spells_label (c ∷ cs) h = (BLANK_NODE_LABEL, label_lexeme c cs h, refl)

-- language tags, and the word of a directive

tag_lexeme : (tag : List ℕ) → IsLanguageTag tag → IsLexeme turtle_grammar LANGTAG (64 ∷ tag)
unfolding turtle_grammar functional_grammar
tag_lexeme tag h =
    inr (inr (inr (inr (inr (inl (refl, matches_within functional_grammar.sets turtle_grammar.sets language_tag langtag refl (64 ∷ tag) (matches_tag in_functional functional_tests tag h)))))))

pub spells_tag : (tag : List ℕ) → IsLanguageTag tag → Spells (At tag) (codes "@" ++ tag)
spells_tag tag h = (LANGTAG, tag_lexeme tag h, refl)

pub spells_prefix_word : Spells (At (codes "prefix")) (codes "@prefix")
spells_prefix_word = spells_tag (codes "prefix") (tag_from_fits (codes "prefix") refl)

-- prefixed names

prefix_matches : (name : List ℕ) → IsPrefixName name → Matches in_turtle (either (both (one 24) (either (both (many (either part (one 0))) part) empty)) empty) name
prefix_matches [] h = inr refl
prefix_matches (c ∷ cs) h = inl (c ∷ [], cs, (c, base_matches c h.0, refl), name_end c cs h.1 h.2, refl)

abbrev namespace : Pattern
namespace = both (either (both (one 24) (either (both (many (either part (one 0))) part) empty)) empty) (one 1)

namespace_matches : (name : List ℕ) → IsPrefixName name → Matches in_turtle namespace (name ++ 58 ∷ [])
unfolding turtle_grammar
namespace_matches name h = (name, 58 ∷ [], prefix_matches name h, (58, refl, refl), refl)

namespace_lexeme : (name : List ℕ) → IsPrefixName name → IsLexeme turtle_grammar PREFIXED_NAME (name ++ 58 ∷ [])
unfolding turtle_grammar
namespace_lexeme name h = inr (inr (inr (inl (refl, inr (namespace_matches name h)))))

pub spells_namespace : (name : List ℕ) → IsPrefixName name → Spells (Name name []) (name ++ codes ":")
spells_namespace name h = (
  PREFIXED_NAME,
  namespace_lexeme name h,
  ap (λ (p : List ℕ). Some (Name p (local_text (name ++ 58 ∷ [])))) (prefix_is_read name [] h)
      ∙ ap (λ (l : List ℕ). Some (Name name l)) (local_is_read name [] [] h spells_nothing),
)

letter_is_base : (c : ℕ) → (is_in_range 65 90 c || is_in_range 97 122 c) ≡ true → is_base c ≡ true
letter_is_base c h = elim (cases_Bool (is_in_range 65 90 c)) as (λ _. is_base c ≡ true) [
  | inl upper ↦ rw upper
  | inr other ↦ let lower : is_in_range 97 122 c ≡ true = rw other at h in rw (other, lower)
]

letter_is_start : (c : ℕ) → (is_in_range 65 90 c || is_in_range 97 122 c) ≡ true → is_start c ≡ true
letter_is_start c h = or_left (is_base c) (in_ranges start_ranges c) (letter_is_base c h)

one_of_one : (n c : ℕ) (test : ℕ → Bool) → is_among (n ∷ []) c ≡ true → test n ≡ true → test c ≡ true
one_of_one n c test h t = elim (or_cases (n == c) false h) as (λ _. test c ≡ true) [
  | inl e ↦ ap test (sym (eqb-true n c e)) ∙ t
  | inr e ↦ cc
]

start_is_start : (c : ℕ) → is_plain_start c ≡ true → is_start c ≡ true
start_is_start c h = elim (or_cases (is_in_range 65 90 c || is_in_range 97 122 c) (is_among (codes "_") c) h) as (λ _. is_start c ≡ true) [
  | inl letter ↦ letter_is_start c letter
  | inr mark ↦ one_of_one 95 c is_start mark refl
]

start_is_part : (c : ℕ) → is_start c ≡ true → is_part c ≡ true
start_is_part c h = or_left (is_start c) (in_ranges part_ranges c) h

plain_is_part : (c : ℕ) → is_plain_character c ≡ true → is_part c ≡ true
plain_is_part c h = elim (or_cases ((is_in_range 48 57 c || is_in_range 65 90 c) || is_in_range 97 122 c) (is_among (codes "_-") c) h) as (λ _. is_part c ≡ true) [
  | inl k ↦ elim (or_cases (is_in_range 48 57 c || is_in_range 65 90 c) (is_in_range 97 122 c) k) as (λ _. is_part c ≡ true) [
    | inl m ↦ elim (or_cases (is_in_range 48 57 c) (is_in_range 65 90 c) m) as (λ _. is_part c ≡ true) [
      | inl digit ↦ or_right (is_start c) (in_ranges part_ranges c) (or_right (is_in_range 45 45 c) _ (or_left (is_in_range 48 57 c) _ digit))
      | inr upper ↦ start_is_part c (letter_is_start c (or_left (is_in_range 65 90 c) (is_in_range 97 122 c) upper))
    ]
    | inr lower ↦ start_is_part c (letter_is_start c (or_right (is_in_range 65 90 c) (is_in_range 97 122 c) lower))
  ]
  | inr k ↦ elim (or_cases (95 == c) (is_among (codes "-") c) k) as (λ _. is_part c ≡ true) [
    | inl e ↦ ap is_part (sym (eqb-true 95 c e))
    | inr mark ↦ one_of_one 45 c is_part mark refl
  ]
]

abbrev plx : Pattern
plx = either (both (one 9) (both (one 25) (one 25))) (both (one 4) (one 33))

abbrev local_inner : Pattern
local_inner = either part (either (one 0) (either (one 1) plx))

abbrev local_last : Pattern
local_last = either part (either (one 1) plx)

plain_last : (cs : List ℕ) → AllAre is_plain_character cs → LastIs is_plain_character cs
plain_last [] a = tt
plain_last (c ∷ []) a = a.0
plain_last (c ∷ d ∷ cs) a = plain_last (d ∷ cs) a.1

local_matches : (c : ℕ) (cs : List ℕ) → IsPlainLocal (c ∷ cs) → Matches in_turtle (both (either start (either (one 1) (either (one 20) plx))) (either (both (many local_inner) local_last) empty)) (c ∷ cs)
local_matches c cs h = (
  c ∷ [],
  cs,
  inl (start_matches c (start_is_start c h.0)),
  end_matches local_inner local_last is_plain_character is_plain_character (λ d k. inl (part_matches d (plain_is_part d k))) (λ d k. inl (part_matches d (plain_is_part d k))) cs h.1 (plain_last cs h.1),
  refl,
)

name_lexeme : (name : List ℕ) (c : ℕ) (cs : List ℕ) → IsPrefixName name → IsPlainLocal (c ∷ cs) → IsLexeme turtle_grammar PREFIXED_NAME (name ++ 58 ∷ c ∷ cs)
unfolding turtle_grammar
name_lexeme name c cs h l = inr (inr (inr (inl (refl, inl (name ++ 58 ∷ [], c ∷ cs, namespace_matches name h, local_matches c cs l, sym (append_assoc name (58 ∷ []) (c ∷ cs)))))))

pub spells_name : (name local : List ℕ) → IsPrefixName name → IsPlainLocal local → Spells (Name name local) (name ++ (codes ":" ++ local))
spells_name name [] h l = absurd l
spells_name name (c ∷ cs) h l = (
  PREFIXED_NAME,
  name_lexeme name c cs h l,
  ap (λ (p : List ℕ). Some (Name p (local_text (name ++ 58 ∷ c ∷ cs)))) (prefix_is_read name (c ∷ cs) h)
      ∙ ap (λ (x : List ℕ). Some (Name name x)) (local_is_read name (c ∷ cs) (c ∷ cs) h (spells_plain (c ∷ cs) l)),
)

-- strings

abbrev in_string : Pattern
in_string = either (one 36) string_escape

-- these characters are written for this one
record IsWrittenAs (c : ℕ) (cs : List ℕ) : Type 0 where
  matches : Matches in_turtle in_string cs
  undone : (rest : List ℕ) → unescaped (cs ++ rest) ≡ in_front (Some c) (unescaped rest)

escaped_as : (c d : ℕ) → (d == 0x75) ≡ false → (d == 0x55) ≡ false → in_turtle 34 d ≡ true → escape_of d ≡ c → IsWrittenAs c (92 ∷ d ∷ [])
unfolding turtle_grammar
escaped_as c d e f h is = record {
  matches = inr (inl (92 ∷ [], d ∷ [], (92, refl, refl), (d, h, refl), refl));
  undone = λ rest. at_piece (echar d) rest (e, f) ∙ ap (λ (x : ℕ). in_front (Some x) (unescaped rest)) is;
}

turned : (a b : ℕ) → (a == b) ≡ false → (b == a) ≡ false
turned a b h = grind (arith, h)

in_quotes : (c : ℕ) → (c == 0x22) ≡ false → (c == 0x5C) ≡ false → (c == 0x0A) ≡ false → (c == 0x0D) ≡ false → in_turtle 36 c ≡ true
unfolding turtle_grammar
in_quotes c q b n r = ap not (each_is (0x22 ∷ 0x5C ∷ 0x0A ∷ 0x0D ∷ []) c) ∙ rw (turned c 0x22 q, turned c 0x5C b, turned c 0x0A n, turned c 0x0D r)

written_by : (c : ℕ) (q b n r : Bool) → (c == 0x22) ≡ q → (c == 0x5C) ≡ b → (c == 0x0A) ≡ n → (c == 0x0D) ≡ r
    → IsWrittenAs c (if q then codes "\\\"" else if b then codes "\\\\" else if n then codes "\\n" else if r then codes "\\r" else c ∷ [])
unfolding turtle_grammar
written_by c true b n r is_q is_b is_n is_r = escaped_as c 0x22 refl refl refl (sym (eqb-true c 0x22 is_q))
written_by c false true n r is_q is_b is_n is_r = escaped_as c 0x5C refl refl refl (sym (eqb-true c 0x5C is_b))
written_by c false false true r is_q is_b is_n is_r = escaped_as c 0x6E refl refl refl (sym (eqb-true c 0x0A is_n))
written_by c false false false true is_q is_b is_n is_r = escaped_as c 0x72 refl refl refl (sym (eqb-true c 0x0D is_r))
written_by c false false false false is_q is_b is_n is_r = record { matches = inl (c, in_quotes c is_q is_b is_n is_r, refl); undone = λ rest. at_piece (plain c) rest is_b }

is_written : (c : ℕ) → IsWrittenAs c (character_text c)
is_written c = written_by c (c == 0x22) (c == 0x5C) (c == 0x0A) (c == 0x0D) refl refl refl refl

all_written : (form : List ℕ) → Matches in_turtle (many in_string) (flat_map character_text form)
all_written [] = ([], refl)
all_written (c ∷ cs) = let o = all_written cs in (character_text c ∷ o.0, (flat_map character_text cs, (is_written c).matches, refl, o.1))

unescaped_form : (form : List ℕ) → unescaped (flat_map character_text form) ≡ Some form
unescaped_form [] = refl
unescaped_form (c ∷ cs) = (is_written c).undone (flat_map character_text cs) ∙ ap (λ (o : Option (List ℕ)). in_front (Some c) o) (unescaped_form cs)

string_lexeme : (form : List ℕ) → IsLexeme turtle_grammar STRING_LITERAL_QUOTE (34 ∷ (flat_map character_text form ++ 34 ∷ []))
unfolding turtle_grammar
string_lexeme form =
    inr (inr (inr (inr (inr (inr (inr (inr (inr (inl (refl, (34 ∷ [], flat_map character_text form ++ 34 ∷ [], (34, refl, refl), (flat_map character_text form, 34 ∷ [], all_written form, (34, refl, refl), refl), refl)))))))))))

pub spells_string : (form : List ℕ) → Spells (Str form) (string_text form)
spells_string form = (
  STRING_LITERAL_QUOTE,
  string_lexeme form,
  ap (λ (cs : List ℕ). Some (Str (unwrap_or (unescaped cs) []))) (between_marks 34 34 (flat_map character_text form))
      ∙ ap (λ (o : Option (List ℕ)). Some (Str (unwrap_or o []))) (unescaped_form form),
)
