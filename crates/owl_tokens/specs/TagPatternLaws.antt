-- The pattern of language tags says what a tag is, behind its mark.
use Rattle.std.proofs.Common.{◌≡◌, ℕ, Bool, false, ◌&&◌, ◌||◌, List, [], ◌∷◌, ◌++◌, refl, sym, ap, ◌∙◌, subst}
use Rattle.std.specs.Prelude.{flat_map, nat_le}
use Rattle.std.specs.Char.{is_ascii_alphabetic, is_ascii_alphanumeric, is_ascii_digit}
use Rattle.std.specs.List.{AllByRecursion, join_with_byte, onto_first, slice_split}
use Rattle.std.proofs.Math.Bool.{or_assoc, or_comm}
use Rattle.std.proofs.lemmas.List.{append-nil}
use Rattle.std.proofs.lemmas.List.Splits.{join_with_byte-slice_split, slice_split-cons_no, slice_split-cons_yes}
use Rattle.owl_characters.specs.Iri.{AllAre}
use Rattle.owl_characters.specs.Names.{AreSubtags, IsLanguageTag, IsRunOf, is_hyphen}
use Rattle.owl_lexer.proofs.PatternLaws.{IsOne, Means, Spelled, class_is, many_are, mark_then, one_as, run_is}
use Rattle.owl_lexer.specs.Patterns.{Matches, Pattern}
use Rattle.owl_lexer.specs.Patterns.Pattern.{many}
use Rattle.owl_lexer.specs.PatternWords.{◌or◌, ◌then◌, some}
use Rattle.owl_tokens.specs.CharacterLaws.{SharedTests, as_shared, differs, shared}
use Rattle.owl_tokens.specs.SharedPatterns.{at_sign, digit, hyphen, language_tag, letter}
use Rattle.owl_tokens.specs.Tokens.{Spells}
use Rattle.owl_tokens.specs.declared.token.Token.TheVariants.{At}

alphanumeric_is : IsOne shared (letter or digit) is_ascii_alphanumeric
alphanumeric_is =
    one_as shared (letter or digit) (λ c. is_ascii_alphabetic c || is_ascii_digit c) is_ascii_alphanumeric
    (λ c. or_comm (is_ascii_alphabetic c) (is_ascii_digit c) ∙ sym (or_assoc (is_ascii_digit c) (nat_le 65 c && nat_le c 90) (nat_le 97 c && nat_le c 122)))
    (class_is shared (letter or digit) refl)

-- a hyphen and a subtag behind it

abbrev subtag : Pattern
subtag = hyphen then some (letter or digit)

abbrev behind_hyphen : List ℕ → List ℕ
behind_hyphen cs = 45 ∷ cs

subtag_is : Means shared subtag (Spelled (IsRunOf is_ascii_alphanumeric) behind_hyphen)
subtag_is cs =
    let m = mark_then shared hyphen (some (letter or digit)) 45 (class_is shared hyphen refl) cs in
    let run = run_is shared (letter or digit) is_ascii_alphanumeric alphanumeric_is in (
      λ k. let b = m.0 k in (b.0, (run b.0).0 b.1, b.2),
      λ o. m.1 (o.0, (run o.0).1 o.1, o.2),
    )

-- subtags behind one another are cut at their hyphens

all_of : (f : ℕ → Bool) (cs : List ℕ) → IsRunOf f cs → AllAre f cs
all_of f [] r = absurd r
all_of f (c ∷ cs) r = r

split_behind : (f : ℕ → Bool) → f 45 ≡ false → (cs rest : List ℕ) (parts : List (List ℕ)) → AllAre f cs → slice_split is_hyphen rest ≡ [] ∷ parts → slice_split is_hyphen (cs ++ rest) ≡ cs ∷ parts
split_behind f fails [] rest parts a e = e
split_behind f fails (c ∷ cs) rest parts a e =
    slice_split-cons_no is_hyphen c (cs ++ rest) (differs f c 45 a.0 fails) ∙ ap (onto_first c) (split_behind f fails cs rest parts a.1 e)

split_subtags : (parts : List (List ℕ)) → AllByRecursion (IsRunOf is_ascii_alphanumeric) parts → slice_split is_hyphen (flat_map behind_hyphen parts) ≡ [] ∷ parts
split_subtags [] a = refl
split_subtags (x ∷ xs) a =
    slice_split-cons_yes is_hyphen 45 (x ++ flat_map behind_hyphen xs) refl
    ∙ ap (λ (l : List (List ℕ)). [] ∷ l) (split_behind is_ascii_alphanumeric refl x (flat_map behind_hyphen xs) xs (all_of is_ascii_alphanumeric x a.0) (split_subtags xs a.1))

joined : (first : List ℕ) (others : List (List ℕ)) → join_with_byte 45 (first ∷ others) ≡ first ++ flat_map behind_hyphen others
joined first [] = sym (append-nil first)
joined first (x ∷ xs) = ap (λ (l : List ℕ). first ++ 45 ∷ l) (joined x xs)

tag_parts : (parts : List (List ℕ)) → AreSubtags parts → Matches shared (some letter then many subtag) (join_with_byte 45 parts)
tag_parts [] h = absurd h
tag_parts (first ∷ others) h = (
  first,
  flat_map behind_hyphen others,
  (run_is shared letter is_ascii_alphabetic (class_is shared letter refl) first).1 h.0,
  (many_are shared subtag (IsRunOf is_ascii_alphanumeric) behind_hyphen subtag_is (flat_map behind_hyphen others)).1 (others, h.1, refl),
  joined first others,
)

pub tag_is : Means shared language_tag (λ cs. (tag : List ℕ) × Spells (At tag) cs)
tag_is cs =
    let m = mark_then shared at_sign (some letter then many subtag) 64 (class_is shared at_sign refl) cs in (
      λ k.
          let b = m.0 k in
          let n = b.1 in
          let run = (run_is shared letter is_ascii_alphabetic (class_is shared letter refl) n.0).0 n.2 in
          let subtags = (many_are shared subtag (IsRunOf is_ascii_alphanumeric) behind_hyphen subtag_is n.1).0 n.3 in
          let cut : slice_split is_hyphen b.0 ≡ n.0 ∷ subtags.0 =
          ap (slice_split is_hyphen) (n.4 ∙ ap (λ (l : List ℕ). n.0 ++ l) subtags.2)
          ∙ split_behind is_ascii_alphabetic refl n.0 (flat_map behind_hyphen subtags.0) subtags.0 (all_of is_ascii_alphabetic n.0 run) (split_subtags subtags.0 subtags.1) in
          (b.0, (subst AreSubtags (sym cut) (run, subtags.1), b.2)),
      λ o. m.1 (o.0, subst (Matches shared (some letter then many subtag)) (join_with_byte-slice_split 45 o.0) (tag_parts (slice_split is_hyphen o.0) o.1.0), o.1.1),
    )

pub matches_tag : (test : ℕ → ℕ → Bool) → SharedTests test → (tag : List ℕ) → IsLanguageTag tag → Matches test language_tag (64 ∷ tag)
matches_tag test t tag h = (as_shared test t language_tag refl (64 ∷ tag)).1 ((tag_is (64 ∷ tag)).1 (tag, (h, refl)))
