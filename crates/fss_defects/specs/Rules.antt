-- What Functional-Style Syntax tells of its tokens and acts.
use Rattle.std.specs.Prelude.{◌==◌, ℕ, false, [], if◌then◌else◌}
use Rattle.owl_reader.specs.Events.{BarsByEvents}
use Rattle.owl_reader.specs.Syntaxes.{Rules}
use Rattle.owl_reader.specs.declared.item.Mark.{Mark}
use Rattle.owl_reader.specs.declared.item.Mark.TheVariants.{Again, Last, Within}
use Rattle.owl_tokens.specs.declared.token.Token.{Token}
use Rattle.fss_grammar.specs.Acts.{act_number}
use Rattle.fss_grammar.specs.Classes.{class_of}
use Rattle.fss_grammar.specs.Page.{rule_number}
use Rattle.fss_grammar.specs.Page.Rule.{document}
use Rattle.fss_grammar.specs.declared.acts.Act.TheVariants.{EndItem, OntologyIri, VersionIri}
use Rattle.fss_defects.specs.Faults.{Bars}

-- The token behind EndItem is the last of an item; the IRI of an ontology and of its version belong to the item of `Ontology(`.
abbrev pub mark_of : ℕ → Mark
mark_of a = if a == act_number EndItem then Last else (if a == act_number OntologyIri then Again else (if a == act_number VersionIri then Again else Within))

abbrev pub functional_rules : Rules Token
functional_rules = record {
  class = class_of;
  document = rule_number document;
  mark = mark_of;
  begins = λ next. false;
  behind = [];
  Bars = BarsByEvents Bars;
  long_quotes = [];
}
