-- What a lexeme of Functional-Style Syntax is and stands for is what `Spells` says of tokens, both ways.
use Rattle.std.proofs.Common.{◌≡◌, ◌↔◌, ◌⊎◌, inl, inr, ℕ, Bool, true, Some, List, [], ◌∷◌, refl, sym, ap, subst}
use Rattle.std.specs.Prelude.{codes}
use Rattle.std.specs.Char.{is_ascii_digit}
use Rattle.std.specs.List.{AllByRecursion}
use Rattle.owl_characters.specs.Iri.{is_among}
use Rattle.owl_characters.specs.Names.{IsRunOf}
use Rattle.owl_lexer.proofs.GapTestLaws.{Stand, spelled_exactly, table_is_language, table_is_prompt}
use Rattle.owl_lexer.proofs.GapCheckLaws.{check_gaps, check_quiet}
use Rattle.owl_lexer.specs.Grammars.{IsLexeme, Terminal, test_of}
use Rattle.owl_lexer.specs.Languages.{IsLanguage, IsPrompt}
use Rattle.owl_lexer.specs.Languages.IsLexemeWith.{token}
use Rattle.owl_lexer.proofs.PatternLaws.{Means, each_is, mark_is, one_is, run_is}
use Rattle.owl_tokens.specs.CharacterLaws.{◌also◌, functional_tests}
use Rattle.owl_tokens.specs.FunctionalGrammar.{equals_mark, functional_grammar, non_negative_integer}
use Rattle.owl_tokens.specs.FunctionalLaws.{functional_knows}
use Rattle.owl_tokens.specs.FunctionalTable.{functional_automaton, functional_table}
use Rattle.owl_tokens.specs.SharedPatterns.{digit}
use Rattle.owl_tokens.specs.SharedSpellingLaws.{IsLexemeFor, Says, SpellsShared, is_gap, lexemes_say, lexemes_stand}
use Rattle.owl_tokens.specs.Tokens.{Spells}
use Rattle.owl_tokens.specs.Values.{sign_of, value_of}
use Rattle.owl_tokens.specs.declared.kinds.TheConstants.{EQUALS, INT}
use Rattle.owl_tokens.specs.declared.token.Sign.TheVariants.{Open, Close, Equals, Carets}
use Rattle.owl_tokens.specs.declared.token.Token.{Token}
use Rattle.owl_tokens.specs.declared.token.Token.TheVariants.{Int, Dec, Sign}

-- the terminals behind the shared ones
abbrev own_terminals : List Terminal
own_terminals = record { kind = INT; pattern = non_negative_integer } ∷ record { kind = EQUALS; pattern = equals_mark } ∷ []

abbrev functional_test : ℕ → ℕ → Bool
functional_test = test_of functional_grammar.sets

digits_are : Means functional_test non_negative_integer (IsRunOf is_ascii_digit)
digits_are = run_is functional_test digit is_ascii_digit (one_is functional_test 6 is_ascii_digit (λ c. functional_tests.agrees 6 c refl))

equals_is : Means functional_test equals_mark (λ cs. cs ≡ codes "=")
unfolding functional_grammar
equals_is = mark_is functional_test equals_mark 61 (one_is functional_test 27 (λ c. is_among (codes "=") c) (each_is (codes "=")))

own_say : AllByRecursion (Says functional_test Spells) own_terminals
unfolding value_of sign_of
own_say = (λ cs m. token (Int cs) refl ((digits_are cs).0 m, refl)) also (λ cs m. token (Sign Equals) refl ((equals_is cs).0 m)) also tt

own_token : (t : Token) (cs : List ℕ) → Spells t cs → SpellsShared t cs ⊎ IsLexemeFor functional_test own_terminals t cs
unfolding value_of sign_of
own_token (Int digits) cs h =
    inr (INT, inl (refl, (digits_are cs).1 (subst (IsRunOf is_ascii_digit) (sym h.1) h.0)), ap (λ (l : List ℕ). value_of INT l) h.1)
own_token (Dec number) cs h = absurd h
own_token (Sign Open) cs h = inl (refl, h)
own_token (Sign Close) cs h = inl (refl, h)
own_token (Sign Equals) cs h = inr (EQUALS, inr (inl (refl, (equals_is cs).1 h)), refl)
own_token (Sign Carets) cs h = inl (refl, h)
own_token (Sign mark) cs h = absurd h
own_token t cs h = inl (refl, h)

stand : Stand (IsLexeme functional_grammar) is_gap value_of Spells
unfolding functional_grammar
stand = lexemes_stand functional_test own_terminals Spells functional_tests (record { shared = λ t cs h. h.1; says = lexemes_say functional_test Spells own_terminals own_say; token = own_token })

-- Characters are written for a token exactly where they are a lexeme that stands for it.
pub functional_spells : (t : Token) (cs : List ℕ) → Spells t cs ↔ ((kind : ℕ) × IsLexeme functional_grammar kind cs × (value_of kind cs ≡ Some t))
functional_spells t cs = spelled_exactly (IsLexeme functional_grammar) is_gap value_of Spells stand t cs

gaps_pass : check_gaps is_gap functional_table ≡ true
unfolding functional_table
gaps_pass = refl

-- The lexemes of the automaton are the tokens of Functional-Style Syntax, white space and comments.
pub functional_is_language : IsLanguage functional_automaton value_of Spells
functional_is_language = table_is_language is_gap functional_table (IsLexeme functional_grammar) value_of Spells functional_knows gaps_pass stand

-- white space may come at the first state, in white space, comments and strings, and in these behind a backslash

loud : List ℕ
loud = 0 ∷ 1 ∷ 2 ∷ 3 ∷ 15 ∷ []

quiet : check_quiet is_gap loud [] functional_table ≡ true
unfolding functional_table loud
quiet = refl

-- Each token of Functional-Style Syntax can be told as soon as white space follows it.
pub functional_is_prompt : IsPrompt functional_automaton Spells []
functional_is_prompt = table_is_prompt is_gap loud [] functional_table (IsLexeme functional_grammar) value_of Spells functional_knows gaps_pass quiet stand
