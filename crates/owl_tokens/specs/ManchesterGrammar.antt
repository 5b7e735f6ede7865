-- The lexemes of Manchester Syntax (sections 2.1 to 2.4). A keyword is a word, and a colon behind it a name of the prefix
-- that the word is; so `SubClassOf:` is one lexeme.
use Rattle.std.specs.Prelude.{[], ◌∷◌, ◌++◌, codes}
use Rattle.owl_lexer.specs.Grammars.{Grammar}
use Rattle.owl_lexer.specs.Grammars.CharacterSet.{inside}
use Rattle.owl_lexer.specs.Patterns.{Pattern}
use Rattle.owl_lexer.specs.Patterns.Pattern.{one}
use Rattle.owl_lexer.specs.PatternWords.{◌then◌, ◌or◌, maybe, some}
use Rattle.owl_tokens.specs.SharedPatterns.{digit, dot, each_of, greater, hyphen, less, shared_sets, shared_terminals}
use Rattle.owl_tokens.specs.declared.kinds.TheConstants.{AT_LEAST, AT_MOST, CLOSE_BRACE, CLOSE_BRACKET, COMMA, DEC, GREATER, INT, LESS, OPEN_BRACE, OPEN_BRACKET}

-- the sets behind the shared ones

abbrev pub plus : Pattern
plus = one 27

abbrev pub equals_mark : Pattern
equals_mark = one 28

abbrev pub open_brace : Pattern
open_brace = one 29

abbrev pub close_brace : Pattern
close_brace = one 30

abbrev pub open_bracket : Pattern
open_bracket = one 31

abbrev pub close_bracket : Pattern
close_bracket = one 32

abbrev pub comma : Pattern
comma = one 33

-- Section 2.1: integerLiteral ::= [ '+' | '-' ] digits
abbrev pub integer_literal : Pattern
integer_literal = maybe (plus or hyphen) then some digit

-- Section 2.1: decimalLiteral ::= [ '+' | '-' ] digits '.' digits
abbrev pub decimal_literal : Pattern
decimal_literal = integer_literal then dot then some digit

unfoldable pub manchester_grammar : Grammar
manchester_grammar = record {
  sets =
      shared_sets
      ++ inside (each_of (codes "+"))
      ∷ inside (each_of (codes "="))
      ∷ inside (each_of (codes "{"))
      ∷ inside (each_of (codes "}"))
      ∷ inside (each_of (codes "["))
      ∷ inside (each_of (codes "]"))
      ∷ inside (each_of (codes ","))
      ∷ [];
  terminals =
      shared_terminals
      ++ record { kind = INT; pattern = integer_literal }
      ∷ record { kind = DEC; pattern = decimal_literal }
      ∷ record { kind = OPEN_BRACE; pattern = open_brace }
      ∷ record { kind = CLOSE_BRACE; pattern = close_brace }
      ∷ record { kind = OPEN_BRACKET; pattern = open_bracket }
      ∷ record { kind = CLOSE_BRACKET; pattern = close_bracket }
      ∷ record { kind = COMMA; pattern = comma }
      ∷ record { kind = LESS; pattern = less }
      ∷ record { kind = AT_MOST; pattern = less then equals_mark }
      ∷ record { kind = GREATER; pattern = greater }
      ∷ record { kind = AT_LEAST; pattern = greater then equals_mark }
      ∷ [];
}
