-- The patterns of strings and of full IRIs say how they are written between their marks, and their values are what they
-- stand for.
use Rattle.std.proofs.Common.{◌≡◌, inl, inr, ℕ, ◌+◌, true, false, ◌||◌, List, [], ◌∷◌, ◌++◌, length, take, refl, sym, ap, ◌∙◌, arith}
use Rattle.std.specs.Prelude.{◌-◌, codes, flat_map, not}
use Rattle.std.specs.Char.{is_ascii_alphabetic, is_ascii_digit}
use Rattle.std.specs.List.{AllByRecursion}
use Rattle.std.proofs.Math.Bool.{or_assoc}
use Rattle.std.proofs.Math.Seq.{take-append_seam}
use Rattle.std.proofs.lemmas.Bool.{cases_Bool, cond-false, cond-true, not-true, not_from_false}
use Rattle.std.proofs.lemmas.List.{append_assoc, length-append}
use Rattle.owl_characters.specs.Iri.{AllAre, IsScheme, is_among, is_iri_character, is_scheme_character}
use Rattle.owl_lexer.proofs.PatternLaws.{IsOne, Means, Spelled, all_are, class_is, many_are, mark_is, mark_then, one_as, one_then}
use Rattle.owl_lexer.specs.Patterns.{Matches, Pattern}
use Rattle.owl_lexer.specs.Patterns.Pattern.{many}
use Rattle.owl_lexer.specs.PatternWords.{◌or◌, ◌then◌}
use Rattle.owl_tokens.specs.CharacterLaws.{shared}
use Rattle.owl_tokens.specs.NamePatternLaws.{plain_kept}
use Rattle.owl_tokens.specs.SharedPatterns.{backslash, colon, digit, full_iri, greater, iri_character, less, letter, quote, quoted_string, scheme_mark, string_character, string_escaped}
use Rattle.owl_tokens.specs.Tokens.{Spells, character_spelling, is_escaped}
use Rattle.owl_tokens.specs.Values.{between_ends, unescaped, unescaped_behind}
use Rattle.owl_tokens.specs.declared.token.Token.TheVariants.{Iri, Str}

-- the first character and the last are left out
between_ends_is : (x y : ℕ) (cs : List ℕ) → between_ends (x ∷ (cs ++ y ∷ [])) ≡ cs
between_ends_is x y cs =
    let sizes : length (cs ++ y ∷ []) ≡ length cs + 1 = length-append cs (y ∷ []) in
    let all : length (x ∷ (cs ++ y ∷ [])) ≡ length (cs ++ y ∷ []) + 1 = omega arith in
    let count : length (x ∷ (cs ++ y ∷ [])) - 2 ≡ length cs = omega arith in
    ap (λ (n : ℕ). take n (cs ++ y ∷ [])) count ∙ take-append_seam cs (y ∷ [])

-- full IRIs

scheme_is : IsOne shared (letter or digit or scheme_mark) is_scheme_character
scheme_is =
    one_as shared (letter or digit or scheme_mark) (λ c. is_ascii_alphabetic c || (is_ascii_digit c || is_among (codes "+-.") c)) is_scheme_character
    (λ c. sym (or_assoc (is_ascii_alphabetic c) (is_ascii_digit c) (is_among (codes "+-.") c)))
    (class_is shared (letter or digit or scheme_mark) refl)

-- what stands behind the colon, and behind the first letter

abbrev iri_end : Pattern
iri_end = many iri_character then greater

abbrev scheme_end : Pattern
scheme_end = many (letter or digit or scheme_mark) then colon then iri_end

scheme_parts : (scheme : List ℕ) → IsScheme scheme → (c : ℕ) × (cs : List ℕ) × (is_ascii_alphabetic c ≡ true) × AllAre is_scheme_character cs × (scheme ≡ c ∷ cs)
scheme_parts [] s = absurd s
scheme_parts (c ∷ cs) s = (c, cs, s.0, s.1, refl)

pub iri_is : Means shared full_iri (λ cs. (iri : List ℕ) × Spells (Iri iri) cs)
iri_is cs =
    let schemes = all_are shared (letter or digit or scheme_mark) is_scheme_character scheme_is in
    let allowed = all_are shared iri_character is_iri_character (class_is shared iri_character refl) in
    let less_then = mark_then shared less (letter then scheme_end) 60 (class_is shared less refl) in
    let letter_then = one_then shared letter scheme_end is_ascii_alphabetic (class_is shared letter refl) in
    let colon_then = mark_then shared colon iri_end 58 (class_is shared colon refl) in
    let greater_is = mark_is shared greater 62 (class_is shared greater refl) in (
      λ m.
          let b = (less_then cs).0 m in
          let n = (letter_then b.0).0 b.1 in
          let s = n.3 in
          let k = (colon_then s.1).0 s.3 in
          let e = k.1 in
          let scheme = n.0 ∷ s.0 in
          let behind_colon : k.0 ≡ e.0 ++ 62 ∷ [] = e.4 ∙ ap (λ (l : List ℕ). e.0 ++ l) ((greater_is e.1).0 e.3) in
          let behind_first : n.1 ≡ s.0 ++ 58 ∷ (e.0 ++ 62 ∷ []) = s.4 ∙ ap (λ (l : List ℕ). s.0 ++ l) (k.2 ∙ ap (λ (l : List ℕ). 58 ∷ l) behind_colon) in
          let behind_less : b.0 ≡ n.0 ∷ (s.0 ++ 58 ∷ (e.0 ++ 62 ∷ [])) = n.4 ∙ ap (λ (l : List ℕ). n.0 ∷ l) behind_first in (
            scheme ++ 58 ∷ e.0,
            (
              record { scheme = scheme; rest = e.0; parts = refl; named = (n.2, (schemes s.0).0 s.2); allowed = (allowed e.0).0 e.2 },
              b.2 ∙ ap (λ (l : List ℕ). 60 ∷ l) (behind_less ∙ sym (append_assoc scheme (58 ∷ e.0) (62 ∷ []))),
            ),
          ),
      λ o.
          let iri = o.1.0 in
          let s = scheme_parts iri.scheme iri.named in
          let end = iri.rest ++ 62 ∷ [] in
          let behind_colon : Matches shared iri_end end = (iri.rest, 62 ∷ [], (allowed iri.rest).1 iri.allowed, (greater_is (62 ∷ [])).1 refl, refl) in
          let behind_first : Matches shared scheme_end (s.1 ++ 58 ∷ end) = (s.1, 58 ∷ end, (schemes s.1).1 s.3, (colon_then (58 ∷ end)).1 (end, behind_colon, refl), refl) in
          let parts : o.0 ++ 62 ∷ [] ≡ s.0 ∷ (s.1 ++ 58 ∷ end) =
          ap (λ (l : List ℕ). l ++ 62 ∷ []) (iri.parts ∙ ap (λ (l : List ℕ). l ++ 58 ∷ iri.rest) s.4) ∙ append_assoc (s.0 ∷ s.1) (58 ∷ iri.rest) (62 ∷ []) in
          (less_then cs).1 (o.0 ++ 62 ∷ [], (letter_then (o.0 ++ 62 ∷ [])).1 (s.0, s.1 ++ 58 ∷ end, s.2, behind_first, parts), o.1.1),
    )

pub iri_value : (iri cs : List ℕ) → Spells (Iri iri) cs → between_ends cs ≡ iri
iri_value iri cs s = ap between_ends s.1 ∙ between_ends_is 60 62 iri

-- pieces of a string

escaped_is : (c : ℕ) → is_escaped c ≡ true → character_spelling c ≡ 92 ∷ c ∷ []
escaped_is c h = cond-true (is_escaped c) (92 ∷ c ∷ []) (c ∷ []) h

plain_is : (c : ℕ) → is_escaped c ≡ false → character_spelling c ≡ c ∷ []
plain_is c h = cond-false (is_escaped c) (92 ∷ c ∷ []) (c ∷ []) h

abbrev string_piece : Pattern
string_piece = string_character or (backslash then string_escaped)

-- each character may stand in a string
abbrev AnyCharacter : ℕ → Type 0
AnyCharacter c = Unit {0}

piece_is : Means shared string_piece (Spelled AnyCharacter character_spelling)
piece_is cs =
    let escape = mark_then shared backslash string_escaped 92 (class_is shared backslash refl) in (
      λ m. elim m [
        | inl x ↦ (x.0, tt, x.2 ∙ sym (plain_is x.0 (not-true (is_escaped x.0) x.1)))
        | inr x ↦ let b = (escape cs).0 x in (b.1.0, tt, b.2 ∙ ap (λ (l : List ℕ). 92 ∷ l) b.1.2 ∙ sym (escaped_is b.1.0 b.1.1))
      ],
      λ o. elim (cases_Bool (is_escaped o.0)) [
        | inl h ↦ inr ((escape cs).1 (o.0 ∷ [], (o.0, h, refl), o.2 ∙ escaped_is o.0 h))
        | inr h ↦ inl (o.0, not_from_false (is_escaped o.0) h, o.2 ∙ plain_is o.0 h)
      ],
    )

any_characters : (cs : List ℕ) → AllByRecursion AnyCharacter cs
any_characters [] = tt
any_characters (c ∷ cs) = (tt, any_characters cs)

pub string_is : Means shared quoted_string (λ cs. (text : List ℕ) × Spells (Str text) cs)
string_is cs =
    let first = mark_then shared quote (many string_piece then quote) 34 (class_is shared quote refl) cs in
    let last = mark_is shared quote 34 (class_is shared quote refl) in
    let pieces = many_are shared string_piece AnyCharacter character_spelling piece_is in (
      λ m.
          let b = first.0 m in
          let n = b.1 in
          let text = (pieces n.0).0 n.2 in
          (text.0, b.2 ∙ ap (λ (l : List ℕ). 34 ∷ l) (n.4 ∙ ap (λ (l : List ℕ). l ++ n.1) text.2 ∙ ap (λ (l : List ℕ). flat_map character_spelling text.0 ++ l) ((last n.1).0 n.3))),
      λ o.
          let text = flat_map character_spelling o.0 in
          first.1 (text ++ 34 ∷ [], (text, 34 ∷ [], (pieces text).1 (o.0, any_characters o.0, refl), (last (34 ∷ [])).1 refl, refl), o.1),
    )

-- what is written of a character stands for it

character_kept : (c : ℕ) (rest : List ℕ) → unescaped_behind false (character_spelling c ++ rest) ≡ c ∷ unescaped_behind false rest
character_kept c rest = elim (cases_Bool (is_escaped c)) [
  | inl h ↦ ap (λ (l : List ℕ). unescaped_behind false (l ++ rest)) (escaped_is c h)
  | inr h ↦ ap (λ (l : List ℕ). unescaped_behind false (l ++ rest)) (plain_is c h) ∙ plain_kept (λ d. not (is_escaped d)) c rest refl (not_from_false (is_escaped c) h)
]

text_kept : (text : List ℕ) → unescaped_behind false (flat_map character_spelling text) ≡ text
text_kept [] = refl
text_kept (c ∷ cs) = character_kept c (flat_map character_spelling cs) ∙ ap (λ (l : List ℕ). c ∷ l) (text_kept cs)

pub string_value : (text cs : List ℕ) → Spells (Str text) cs → unescaped (between_ends cs) ≡ text
unfolding unescaped
string_value text cs s =
    ap (λ (l : List ℕ). unescaped_behind false (between_ends l)) s
    ∙ ap (unescaped_behind false) (between_ends_is 34 34 (flat_map character_spelling text))
    ∙ text_kept text
