-- What Manchester Syntax tells of its tokens and acts.
use Rattle.std.specs.Prelude.{◌≡◌, ◌==◌, ◌&&◌, ℕ, Bool, true, not, nat_lt, List, [], ◌∷◌, Option, None, Some, Err, length}
use Rattle.owl_lexer.specs.declared.placed.Placed.{Placed}
use Rattle.owl_reader.specs.Steps.{Step}
use Rattle.owl_reader.specs.Syntaxes.{Rules}
use Rattle.owl_reader.specs.declared.fault.TokenFault.{TokenFault}
use Rattle.owl_reader.specs.declared.item.Mark.TheVariants.{Within}
use Rattle.owl_tokens.specs.declared.token.Token.{Token}
use Rattle.man_grammar.specs.ClassNumbers.{class_number, colon_keywords}
use Rattle.man_grammar.specs.Classes.{class_of}
use Rattle.man_grammar.specs.Page.{rule_number}
use Rattle.man_grammar.specs.Page.Rule.{document}
use Rattle.man_grammar.specs.Runs.{answer}
use Rattle.man_grammar.specs.declared.class.Class.TheVariants as class

-- An item begins at each keyword in front of a colon but `Annotations:`, and goes on to the next one or to the end.
abbrev pub begins_item : ℕ → Bool
begins_item c = nat_lt c (length colon_keywords) && not (c == class_number class.Annotations)

abbrev pub begins : Option Token → Bool
begins None = true
begins (Some x) = begins_item (class_of x)

-- What is whole: prefixes, behind which `Ontology:` may stand, and what `Class:` may stand behind.
abbrev pub behind_items : List ℕ
behind_items = class_number class.Ontology ∷ class_number class.Class ∷ []

-- behind these steps, these acts in front of this token or of the end fail so
abbrev pub Bars : List (Step Token) → List ℕ → Option (Placed Token) → TokenFault → Type 0
Bars steps acts next fault = answer steps acts next ≡ Err fault

abbrev pub manchester_rules : Rules Token
manchester_rules = record {
  class = class_of;
  document = rule_number document;
  mark = λ _. Within;
  begins = begins;
  behind = behind_items;
  Bars = Bars;
  long_quotes = [];
}
