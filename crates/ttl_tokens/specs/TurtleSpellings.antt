-- How the tokens of Turtle are written (RDF 1.1 Turtle, section 6.5).
use Rattle.std.specs.Prelude.{◌≡◌, ℕ, List, [], ◌∷◌, Some, codes}
use Rattle.owl_lexer.specs.Grammars.{IsLexeme}
use Rattle.ttl_tokens.specs.TurtleGrammar.{turtle_grammar}
use Rattle.ttl_tokens.specs.TurtleValues.{token_of}
use Rattle.ttl_tokens.specs.declared.token.Token.{Token}

-- The characters are a lexeme of the grammar that stands for this token.
abbrev pub Spells : Token → List ℕ → Type 0
Spells token cs = (kind : ℕ) × IsLexeme turtle_grammar kind cs × (token_of kind cs ≡ Some token)

-- The quotes of long strings (section 2.5.1), which may hold white space, while two of them are an empty string.
abbrev pub long_quotes : List (List ℕ)
long_quotes = codes "\"\"\"" ∷ codes "'''" ∷ []
