-- The lexemes of Functional-Style Syntax (Structural Specification, sections 2.4, 3.7, 5.6.2 and 5.7).
use Rattle.std.specs.Prelude.{[], ◌∷◌, ◌++◌, codes}
use Rattle.owl_lexer.specs.Grammars.{Grammar}
use Rattle.owl_lexer.specs.Grammars.CharacterSet.{inside}
use Rattle.owl_lexer.specs.Patterns.{Pattern}
use Rattle.owl_lexer.specs.Patterns.Pattern.{one}
use Rattle.owl_lexer.specs.PatternWords.{some}
use Rattle.owl_tokens.specs.SharedPatterns.{digit, each_of, shared_sets, shared_terminals}
use Rattle.owl_tokens.specs.declared.kinds.TheConstants.{EQUALS, INT}

-- the set behind the shared ones
abbrev pub equals_mark : Pattern
equals_mark = one 27

-- nonNegativeInteger is one or more digits
abbrev pub non_negative_integer : Pattern
non_negative_integer = some digit

unfoldable pub functional_grammar : Grammar
functional_grammar = record {
  sets = shared_sets ++ inside (each_of (codes "=")) ∷ [];
  terminals =
      shared_terminals
      ++ record { kind = INT; pattern = non_negative_integer }
      ∷ record { kind = EQUALS; pattern = equals_mark }
      ∷ [];
}
