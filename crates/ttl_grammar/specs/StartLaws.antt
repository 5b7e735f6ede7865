-- The table of Turtle has the rule of documents.
use Rattle.std.specs.Prelude.{◌≡◌, ℕ, true, refl, List, Option}
use Rattle.grammar.specs.Grammars.{has_rule}
use Rattle.ttl_grammar.specs.Rules.{turtle_rules}
use Rattle.ttl_grammar.specs.Table.{turtle, turtle_document}

pub has_document : (base : Option (List ℕ)) → has_rule turtle (turtle_rules base).document ≡ true
unfolding turtle turtle_document
has_document base = refl
