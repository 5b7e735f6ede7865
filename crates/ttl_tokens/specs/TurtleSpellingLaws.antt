-- The lexemes of Turtle are its tokens, white space and comments.
use Rattle.std.proofs.Common.{◌≡◌, inl, inr, ℕ, Bool, true, false, not, ◌||◌, Option, None, Some, List, [], ◌∷◌, refl, sym, ap, ◌∙◌}
use Rattle.std.specs.Prelude.{◌==◌, codes}
use Rattle.std.specs.List.{list_all}
use Rattle.std.proofs.Math.Bool.{or_assoc, or_comm}
use Rattle.owl_characters.specs.Iri.{is_among}
use Rattle.std.proofs.lemmas.Bool.{and_parts, eqb-true, or_cases}
use Rattle.owl_characters.specs.Names.{IsRunOf}
use Rattle.owl_lexer.proofs.GapTestLaws.{Stand, table_is_language, table_is_prompt}
use Rattle.owl_lexer.proofs.GapCheckLaws.{Quote, check_gaps, check_quiet}
use Rattle.owl_lexer.specs.Grammars.{IsLexeme, IsLexemeOf, Terminal, test_of}
use Rattle.owl_lexer.specs.Languages.{IsCommentText, IsLanguage, IsLexemeWith, IsPrompt}
use Rattle.owl_lexer.specs.Languages.IsLexemeWith.{token, space, comment}
use Rattle.owl_lexer.proofs.PatternLaws.{Means, comment_is, each_is, one_is, run_is}
use Rattle.owl_lexer.specs.Patterns.Pattern.{both, many, one}
use Rattle.owl_lexer.specs.PatternWords.{some}
use Rattle.owl_lexer.specs.Splitting.{is_line_end, is_space}
use Rattle.owl_lexer.specs.Tables.{automaton_of}
use Rattle.ttl_tokens.specs.TurtleGrammar.{turtle_grammar}
use Rattle.ttl_tokens.specs.declared.kinds.TheConstants.{COMMENT, WHITE_SPACE}
use Rattle.ttl_tokens.specs.TurtleLaws.{turtle_knows}
use Rattle.ttl_tokens.specs.TurtleSpellings.{Spells, long_quotes}
use Rattle.ttl_tokens.specs.TurtleTable.{turtle_table}
use Rattle.ttl_tokens.specs.TurtleValues.{token_of}
use Rattle.ttl_tokens.specs.declared.token.Token.{Token}

abbrev in_turtle : ℕ → ℕ → Bool
in_turtle = test_of turtle_grammar.sets

-- white space and comments

white_space_is : Means in_turtle (some (one 22)) (IsRunOf is_space)
unfolding turtle_grammar
white_space_is =
    run_is in_turtle (one 22) is_space
    (one_is in_turtle 22 is_space (λ c. each_is (32 ∷ 9 ∷ 13 ∷ 10 ∷ []) c
    ∙ ap (λ b. (32 == c) || ((9 == c) || b)) (sym (or_assoc (13 == c) (10 == c) false) ∙ ap (λ b. b || false) (or_comm (13 == c) (10 == c)) ∙ or_assoc (10 == c) (13 == c) false)))

comment_text_is : Means in_turtle (both (one 7) (many (one 23))) IsCommentText
unfolding turtle_grammar
comment_text_is =
    comment_is in_turtle (one 7) (one 23) (one_is in_turtle 7 (λ c. is_among (35 ∷ []) c) (each_is (codes "#")))
    (one_is in_turtle 23 (λ c. not (is_line_end c)) (λ c. ap not (each_is (10 ∷ 13 ∷ []) c)))

abbrev pub is_gap : ℕ → Bool
is_gap kind = (kind == WHITE_SPACE) || (kind == COMMENT)

gaps_are_none : (kind : ℕ) (cs : List ℕ) → is_gap kind ≡ true → token_of kind cs ≡ None
gaps_are_none kind cs h = elim (or_cases (kind == WHITE_SPACE) (kind == COMMENT) h) [
  | inl e ↦ ap (λ (k : ℕ). token_of k cs) (eqb-true kind WHITE_SPACE e)
  | inr e ↦ ap (λ (k : ℕ). token_of k cs) (eqb-true kind COMMENT e)
]

-- all other lexemes stand for tokens

abbrev is_some : Option Token → Bool
is_some None = false
is_some (Some t) = true

some_token : (o : Option Token) → is_some o ≡ true → (t : Token) × (o ≡ Some t)
some_token None h = absurd (cc)
some_token (Some t) h = (t, refl)

-- what all terminals pass by their kinds, a lexeme does
kind_passes : (test : ℕ → ℕ → Bool) (f : ℕ → Bool) (xs : List Terminal) (kind : ℕ) (cs : List ℕ) → list_all (λ x. f x.kind) xs ≡ true → IsLexemeOf test xs kind cs → f kind ≡ true
kind_passes test f [] kind cs h m = elim m [ ]
kind_passes test f (x ∷ xs) kind cs h (inl m) = ap f (sym m.0) ∙ (and_parts (f x.kind) (list_all (λ x. f x.kind) xs) h).0
kind_passes test f (x ∷ xs) kind cs h (inr m) = kind_passes test f xs kind cs (and_parts (f x.kind) (list_all (λ x. f x.kind) xs) h).1 m

-- the terminals behind those of white space and comments
abbrev behind_gaps : List Terminal → List Terminal
behind_gaps [] = []
behind_gaps (x ∷ []) = []
behind_gaps (x ∷ y ∷ xs) = xs

others_are_some : (cs : List ℕ) → list_all (λ x. is_some (token_of x.kind cs)) (behind_gaps turtle_grammar.terminals) ≡ true
unfolding turtle_grammar
others_are_some cs = refl

says_token : (kind : ℕ) (cs : List ℕ) → IsLexeme turtle_grammar kind cs → IsLexemeOf in_turtle (behind_gaps turtle_grammar.terminals) kind cs → IsLexemeWith Spells (token_of kind cs) cs
says_token kind cs m other =
    let o = some_token (token_of kind cs) (kind_passes in_turtle (λ k. is_some (token_of k cs)) (behind_gaps turtle_grammar.terminals) kind cs (others_are_some cs) other) in
    token o.0 o.1 (kind, m, o.1)

says : (kind : ℕ) (cs : List ℕ) → IsLexeme turtle_grammar kind cs → IsLexemeWith Spells (token_of kind cs) cs
unfolding turtle_grammar
says kind cs (inl m) = space (ap (λ (k : ℕ). token_of k cs) (sym m.0)) ((white_space_is cs).0 m.1)
says kind cs (inr (inl m)) = comment (ap (λ (k : ℕ). token_of k cs) (sym m.0)) ((comment_text_is cs).0 m.1)
says kind cs (inr (inr m)) = says_token kind cs (inr (inr m)) m

gaps_pass : check_gaps is_gap turtle_table ≡ true
unfolding turtle_table
gaps_pass = refl

lexemes_stand : Stand (IsLexeme turtle_grammar) is_gap token_of Spells
unfolding turtle_grammar
lexemes_stand = record {
  says = says;
  token = λ t cs h. h;
  space = λ cs h. (WHITE_SPACE, inl (refl, (white_space_is cs).1 h));
  comment = λ cs h. (COMMENT, inr (inl (refl, (comment_text_is cs).1 h)));
  none = gaps_are_none;
}

pub turtle_is_language : IsLanguage (automaton_of turtle_table) token_of Spells
turtle_is_language = table_is_language is_gap turtle_table (IsLexeme turtle_grammar) token_of Spells turtle_knows gaps_pass lexemes_stand

-- white space may come at the first state, in white space and comments, and in strings and behind what is escaped in them

loud : List ℕ
loud = 0 ∷ 1 ∷ 2 ∷ 3 ∷ 4 ∷ 25 ∷ 27 ∷ 28 ∷ 30 ∷ 50 ∷ 51 ∷ 52 ∷ 54 ∷ 55 ∷ 56 ∷ 72 ∷ 73 ∷ 74 ∷ 75 ∷ 76 ∷ 77 ∷ 78 ∷ 79 ∷ 80 ∷ 81 ∷ 92 ∷ 93 ∷ 94 ∷ 95 ∷ 96 ∷ 97 ∷ 98 ∷ 99 ∷ 100 ∷ 101 ∷ 107 ∷ 108 ∷ 109 ∷ 110 ∷ 111 ∷ 112 ∷ 114 ∷ 115 ∷ 116 ∷ 117 ∷ 118 ∷ 119 ∷ 123 ∷ 124 ∷ 125 ∷ 126 ∷ 127 ∷ 128 ∷ 129 ∷ 130 ∷ 131 ∷ 132 ∷ 133 ∷ 134 ∷ 135 ∷ 136 ∷ []

-- a quotation mark or an apostrophe leads to one state, two of them to another one
quotes : List Quote
quotes = record { character = 34; once = 2; twice = 26 } ∷ record { character = 39; once = 4; twice = 29 } ∷ []

quiet : check_quiet is_gap loud quotes turtle_table ≡ true
unfolding turtle_table loud quotes
quiet = refl

-- Each token of Turtle can be told as soon as white space follows it, unless a long string may still be open.
pub turtle_is_prompt : IsPrompt (automaton_of turtle_table) Spells long_quotes
unfolding quotes
turtle_is_prompt = table_is_prompt is_gap loud quotes turtle_table (IsLexeme turtle_grammar) token_of Spells turtle_knows gaps_pass quiet lexemes_stand
