-- The table of Functional-Style Syntax has the rule of documents.
use Rattle.std.specs.Prelude.{◌≡◌, true, refl}
use Rattle.grammar.specs.Grammars.{has_rule}
use Rattle.fss_grammar.specs.Table.{functional, functional_document}
use Rattle.fss_defects.specs.Rules.{functional_rules}

pub has_document : has_rule functional functional_rules.document ≡ true
unfolding functional functional_document
has_document = refl
