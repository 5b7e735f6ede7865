-- What Turtle tells of its tokens and acts.
use Rattle.std.specs.Prelude.{◌≡◌, ◌==◌, ℕ, false, List, [], Option, Err, if◌then◌else◌}
use Rattle.grammar.specs.Derivations.{Event}
use Rattle.owl_reader.specs.Events.{BarsByEvents}
use Rattle.owl_reader.specs.Syntaxes.{Rules}
use Rattle.owl_reader.specs.declared.fault.TokenFault.{TokenFault}
use Rattle.owl_reader.specs.declared.item.Mark.{Mark}
use Rattle.owl_reader.specs.declared.item.Mark.TheVariants.{Last, Within}
use Rattle.ttl_tokens.specs.TurtleSpellings.{long_quotes}
use Rattle.ttl_tokens.specs.declared.token.Token.{Token}
use Rattle.ttl_grammar.specs.Acts.{act_number}
use Rattle.ttl_grammar.specs.Classes.{class_of}
use Rattle.ttl_grammar.specs.Page.{rule_number}
use Rattle.ttl_grammar.specs.Page.Rule.{document}
use Rattle.ttl_grammar.specs.Runs.{answer}
use Rattle.ttl_grammar.specs.declared.act.Act.TheVariants.{EndStatement}

-- The items of a document are its statements, each with its dot: the token behind EndStatement is the last.
abbrev pub mark_of : ℕ → Mark
mark_of a = if a == act_number EndStatement then Last else Within

-- against a base, behind these events, these acts in front of this token or of the end fail so
abbrev pub Bars : Option (List ℕ) → List (Event Token) → List ℕ → Option Token → TokenFault → Type 0
Bars base events acts next fault = answer base events acts next ≡ Err fault

abbrev pub turtle_rules : Option (List ℕ) → Rules Token
turtle_rules base = record {
  class = class_of;
  document = rule_number document;
  mark = mark_of;
  begins = λ next. false;
  behind = [];
  Bars = BarsByEvents (Bars base);
  long_quotes = long_quotes;
}
