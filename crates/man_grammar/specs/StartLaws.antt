-- The table of Manchester Syntax has the rule of documents.
use Rattle.std.specs.Prelude.{◌≡◌, true, refl}
use Rattle.grammar.specs.Grammars.{has_rule}
use Rattle.man_grammar.specs.Rules.{manchester_rules}
use Rattle.man_grammar.specs.Table.{manchester}
use Rattle.man_grammar.specs.Table1.{manchester_document}

pub has_document : has_rule manchester manchester_rules.document ≡ true
unfolding manchester manchester_document
has_document = refl
