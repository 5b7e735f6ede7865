-- What a lexeme of Manchester Syntax is and stands for is what `SpellsManchester` says of tokens, both ways.
use Rattle.std.proofs.Common.{◌≡◌, ◌↔◌, ◌⊎◌, inl, inr, ℕ, Bool, true, ◌||◌, Some, List, [], ◌∷◌, ◌++◌, refl, sym, ap, ◌∙◌, subst}
use Rattle.std.specs.Prelude.{◌==◌, codes}
use Rattle.std.specs.Char.{is_ascii_digit}
use Rattle.std.specs.List.{AllByRecursion}
use Rattle.std.proofs.Math.Bool.{or-false}
use Rattle.owl_lexer.specs.Grammars.{IsLexeme, Terminal, test_of}
use Rattle.owl_lexer.specs.Patterns.{Pattern}
use Rattle.owl_lexer.specs.PatternWords.{◌or◌, ◌then◌, some}
use Rattle.owl_characters.specs.Iri.{is_among}
use Rattle.owl_characters.specs.Names.{IsRunOf}
use Rattle.owl_tokens.specs.CharacterLaws.{◌also◌, manchester_agrees, manchester_tests, manchester_words}
use Rattle.owl_tokens.specs.ManchesterGrammar.{close_brace, close_bracket, comma, decimal_literal, equals_mark, integer_literal, manchester_grammar, open_brace, open_bracket, plus}
use Rattle.owl_tokens.specs.ManchesterSpellings.{IsDecimal, IsInteger, SpellsManchester}
use Rattle.owl_lexer.proofs.PatternLaws.{IsOne, Means, class_is, is_index, mark_is, mark_then, one_as, run_is, word_of}
use Rattle.owl_tokens.specs.SharedPatterns.{digit, dot, greater, hyphen, less}
use Rattle.owl_lexer.proofs.GapTestLaws.{Stand, spelled_exactly, table_is_language, table_is_prompt}
use Rattle.owl_lexer.proofs.GapCheckLaws.{check_gaps, check_quiet}
use Rattle.owl_lexer.specs.Languages.{IsLanguage, IsPrompt}
use Rattle.owl_lexer.specs.Languages.IsLexemeWith.{token}
use Rattle.owl_tokens.specs.ManchesterLaws.{manchester_knows}
use Rattle.owl_tokens.specs.ManchesterTable.{manchester_automaton, manchester_table}
use Rattle.owl_tokens.specs.SharedSpellingLaws.{IsLexemeFor, Says, SpellsShared, is_gap, is_shared_mark, lexeme_as, lexemes_say, lexemes_stand}
use Rattle.owl_tokens.specs.Tokens.{Spells}
use Rattle.owl_tokens.specs.Values.{sign_of, value_of}
use Rattle.owl_tokens.specs.declared.kinds.TheConstants.{AT_LEAST, AT_MOST, CLOSE_BRACE, CLOSE_BRACKET, COMMA, DEC, GREATER, INT, LESS, OPEN_BRACE, OPEN_BRACKET}
use Rattle.owl_tokens.specs.declared.token.Sign.{Sign as Mark}
use Rattle.owl_tokens.specs.declared.token.Sign.TheVariants.{Open, Close, Equals, Carets, OpenBrace, CloseBrace, OpenBracket, CloseBracket, Comma, Less, AtMost, Greater, AtLeast}
use Rattle.owl_tokens.specs.declared.token.Token.{Token}
use Rattle.owl_tokens.specs.declared.token.Token.TheVariants.{Int, Dec, Sign}

abbrev manchester_test : ℕ → ℕ → Bool
manchester_test = test_of manchester_grammar.sets

-- the same in words
abbrev manchester : ℕ → ℕ → Bool
manchester = word_of manchester_words

-- the terminals behind the shared ones
abbrev own_terminals : List Terminal
own_terminals =
    record { kind = INT; pattern = integer_literal }
    ∷ record { kind = DEC; pattern = decimal_literal }
    ∷ record { kind = OPEN_BRACE; pattern = open_brace }
    ∷ record { kind = CLOSE_BRACE; pattern = close_brace }
    ∷ record { kind = OPEN_BRACKET; pattern = open_bracket }
    ∷ record { kind = CLOSE_BRACKET; pattern = close_bracket }
    ∷ record { kind = COMMA; pattern = comma }
    ∷ record { kind = LESS; pattern = less }
    ∷ record { kind = AT_MOST; pattern = less then equals_mark }
    ∷ record { kind = GREATER; pattern = greater }
    ∷ record { kind = AT_LEAST; pattern = greater then equals_mark }
    ∷ []

-- what both languages have

shared_mark_as : (mark : Mark) (cs : List ℕ) → is_shared_mark mark ≡ true → Spells (Sign mark) cs → SpellsManchester (Sign mark) cs
shared_mark_as Open cs e h = h
shared_mark_as Close cs e h = h
shared_mark_as Carets cs e h = h
shared_mark_as mark cs e h = absurd (cc)

shared_as : (t : Token) (cs : List ℕ) → SpellsShared t cs → SpellsManchester t cs
shared_as (Int digits) cs h = let e = h.0 in absurd (cc)
shared_as (Dec number) cs h = absurd h.1
shared_as (Sign mark) cs h = shared_mark_as mark cs h.0 h.1
shared_as t cs h = h.1

-- numbers

digits_are : Means manchester (some digit) (IsRunOf is_ascii_digit)
digits_are = run_is manchester digit is_ascii_digit (class_is manchester digit refl)

sign_is : IsOne manchester (plus or hyphen) (λ c. is_among (codes "+-") c)
sign_is =
    one_as manchester (plus or hyphen) (λ c. is_among (codes "+") c || is_among (codes "-") c) (λ c. is_among (codes "+-") c)
    (λ c. ap (λ b. b || is_among (codes "-") c) (or-false (43 == c))) (class_is manchester (plus or hyphen) refl)

integer_is : Means manchester integer_literal IsInteger
integer_is cs = (
  λ m. elim m.2 [
    | inl x ↦
        let o = (sign_is m.0).0 x in
        inr (o.0, m.1, o.1, (digits_are m.1).0 m.3, m.4 ∙ ap (λ (l : List ℕ). l ++ m.1) o.2)
    | inr x ↦ inl (subst (IsRunOf is_ascii_digit) (sym (m.4 ∙ ap (λ (l : List ℕ). l ++ m.1) x)) ((digits_are m.1).0 m.3))
  ],
  λ h. elim h [
    | inl x ↦ ([], cs, inr refl, (digits_are cs).1 x, refl)
    | inr x ↦ (x.0 ∷ [], x.1, inl ((sign_is (x.0 ∷ [])).1 (x.0, x.2, refl)), (digits_are x.1).1 x.3, x.4)
  ],
)

decimal_is : Means manchester decimal_literal IsDecimal
decimal_is cs =
    let behind = mark_then manchester dot (some digit) 46 (class_is manchester dot refl) in (
      λ m.
          let b = (behind m.1).0 m.3 in
          record {
            integer = m.0;
            digits = b.0;
            is_integer = (integer_is m.0).0 m.2;
            are_digits = (digits_are b.0).0 b.1;
            parts = m.4 ∙ ap (λ (l : List ℕ). m.0 ++ l) b.2;
          },
      λ h. (h.integer, 46 ∷ h.digits, (integer_is h.integer).1 h.is_integer, (behind (46 ∷ h.digits)).1 (h.digits, (digits_are h.digits).1 h.are_digits, refl), h.parts),
    )

-- marks

or_equal : (p : Pattern) (x : ℕ) → IsOne manchester p (λ c. is_among (x ∷ []) c) → Means manchester (p then equals_mark) (λ cs. cs ≡ x ∷ 61 ∷ [])
or_equal p x h cs =
    let equals = mark_is manchester equals_mark 61 (class_is manchester equals_mark refl) in
    let m = mark_then manchester p equals_mark x h cs in (
      λ k. let b = m.0 k in b.2 ∙ ap (λ (l : List ℕ). x ∷ l) ((equals b.0).0 b.1),
      λ e. m.1 (61 ∷ [], (equals (61 ∷ [])).1 refl, e),
    )

own_say : AllByRecursion (Says manchester SpellsManchester) own_terminals
unfolding value_of sign_of
own_say =
    (λ cs m. token (Int cs) refl ((integer_is cs).0 m, refl))
    also (λ cs m. token (Dec cs) refl ((decimal_is cs).0 m, refl))
    also (λ cs m. token (Sign OpenBrace) refl ((mark_is manchester open_brace 123 (class_is manchester open_brace refl) cs).0 m))
    also (λ cs m. token (Sign CloseBrace) refl ((mark_is manchester close_brace 125 (class_is manchester close_brace refl) cs).0 m))
    also (λ cs m. token (Sign OpenBracket) refl ((mark_is manchester open_bracket 91 (class_is manchester open_bracket refl) cs).0 m))
    also (λ cs m. token (Sign CloseBracket) refl ((mark_is manchester close_bracket 93 (class_is manchester close_bracket refl) cs).0 m))
    also (λ cs m. token (Sign Comma) refl ((mark_is manchester comma 44 (class_is manchester comma refl) cs).0 m))
    also (λ cs m. token (Sign Less) refl ((mark_is manchester less 60 (class_is manchester less refl) cs).0 m))
    also (λ cs m. token (Sign AtMost) refl ((or_equal less 60 (class_is manchester less refl) cs).0 m))
    also (λ cs m. token (Sign Greater) refl ((mark_is manchester greater 62 (class_is manchester greater refl) cs).0 m))
    also (λ cs m. token (Sign AtLeast) refl ((or_equal greater 62 (class_is manchester greater refl) cs).0 m))
    also tt

-- from tokens to lexemes

-- it is a shared token, or a lexeme of this kind stands for it
abbrev IsOwn : Token → List ℕ → Type 0
IsOwn t cs = SpellsShared t cs ⊎ IsLexemeFor manchester own_terminals t cs

mark_lexeme : (mark : Mark) (cs : List ℕ) → SpellsManchester (Sign mark) cs → IsOwn (Sign mark) cs
unfolding value_of sign_of
mark_lexeme Open cs h = inl (refl, h)
mark_lexeme Close cs h = inl (refl, h)
mark_lexeme Equals cs h = absurd h
mark_lexeme Carets cs h = inl (refl, h)
mark_lexeme OpenBrace cs h = inr (OPEN_BRACE, inr (inr (inl (refl, (mark_is manchester open_brace 123 (class_is manchester open_brace refl) cs).1 h))), refl)
mark_lexeme CloseBrace cs h = inr (CLOSE_BRACE, inr (inr (inr (inl (refl, (mark_is manchester close_brace 125 (class_is manchester close_brace refl) cs).1 h)))), refl)
mark_lexeme OpenBracket cs h = inr (OPEN_BRACKET, inr (inr (inr (inr (inl (refl, (mark_is manchester open_bracket 91 (class_is manchester open_bracket refl) cs).1 h))))), refl)
mark_lexeme CloseBracket cs h = inr (CLOSE_BRACKET, inr (inr (inr (inr (inr (inl (refl, (mark_is manchester close_bracket 93 (class_is manchester close_bracket refl) cs).1 h)))))), refl)
mark_lexeme Comma cs h = inr (COMMA, inr (inr (inr (inr (inr (inr (inl (refl, (mark_is manchester comma 44 (class_is manchester comma refl) cs).1 h))))))), refl)
mark_lexeme Less cs h = inr (LESS, inr (inr (inr (inr (inr (inr (inr (inl (refl, (mark_is manchester less 60 (class_is manchester less refl) cs).1 h)))))))), refl)
mark_lexeme AtMost cs h = inr (AT_MOST, inr (inr (inr (inr (inr (inr (inr (inr (inl (refl, (or_equal less 60 (class_is manchester less refl) cs).1 h))))))))), refl)
mark_lexeme Greater cs h = inr (GREATER, inr (inr (inr (inr (inr (inr (inr (inr (inr (inl (refl, (mark_is manchester greater 62 (class_is manchester greater refl) cs).1 h)))))))))), refl)
mark_lexeme AtLeast cs h = inr (AT_LEAST, inr (inr (inr (inr (inr (inr (inr (inr (inr (inr (inl (refl, (or_equal greater 62 (class_is manchester greater refl) cs).1 h))))))))))), refl)

own_token : (t : Token) (cs : List ℕ) → SpellsManchester t cs → IsOwn t cs
unfolding value_of
own_token (Int number) cs h = inr (INT, inl (refl, (integer_is cs).1 (subst IsInteger (sym h.1) h.0)), ap (λ (l : List ℕ). value_of INT l) h.1)
own_token (Dec number) cs h = inr (DEC, inr (inl (refl, (decimal_is cs).1 (subst IsDecimal (sym h.1) h.0))), ap (λ (l : List ℕ). value_of DEC l) h.1)
own_token (Sign mark) cs h = mark_lexeme mark cs h
own_token t cs h = inl (refl, h)

stand : Stand (IsLexeme manchester_grammar) is_gap value_of SpellsManchester
unfolding manchester_grammar
stand =
    let known = is_index manchester_words in
    lexemes_stand manchester_test own_terminals SpellsManchester manchester_tests (record {
      shared = shared_as;
      says = λ kind cs m. lexemes_say manchester SpellsManchester own_terminals own_say kind cs (lexeme_as known manchester_test manchester manchester_agrees own_terminals refl kind cs m);
      token = λ t cs h. elim (own_token t cs h) [
        | inl x ↦ inl x
        | inr x ↦ inr (x.0, lexeme_as known manchester manchester_test (λ set c k. sym (manchester_agrees set c k)) own_terminals refl x.0 cs x.1, x.2)
      ];
    })

-- Characters are written for a token exactly where they are a lexeme that stands for it.
pub manchester_spells : (t : Token) (cs : List ℕ) → SpellsManchester t cs ↔ ((kind : ℕ) × IsLexeme manchester_grammar kind cs × (value_of kind cs ≡ Some t))
manchester_spells t cs = spelled_exactly (IsLexeme manchester_grammar) is_gap value_of SpellsManchester stand t cs

gaps_pass : check_gaps is_gap manchester_table ≡ true
unfolding manchester_table
gaps_pass = refl

-- The lexemes of the automaton are the tokens of Manchester Syntax, white space and comments.
pub manchester_is_language : IsLanguage manchester_automaton value_of SpellsManchester
manchester_is_language = table_is_language is_gap manchester_table (IsLexeme manchester_grammar) value_of SpellsManchester manchester_knows gaps_pass stand

-- white space may come at the first state, in white space, comments and strings, and in these behind a backslash

loud : List ℕ
loud = 0 ∷ 1 ∷ 2 ∷ 3 ∷ 21 ∷ []

quiet : check_quiet is_gap loud [] manchester_table ≡ true
unfolding manchester_table loud
quiet = refl

-- Each token of Manchester Syntax can be told as soon as white space follows it.
pub manchester_is_prompt : IsPrompt manchester_automaton SpellsManchester []
manchester_is_prompt = table_is_prompt is_gap loud [] manchester_table (IsLexeme manchester_grammar) value_of SpellsManchester manchester_knows gaps_pass quiet stand
