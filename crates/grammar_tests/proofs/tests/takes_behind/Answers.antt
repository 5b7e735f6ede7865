use Rattle.grammar_tests.proofs.Feeding.{item_is_a_rule}
use Rattle.grammar_tests.proofs.tests.takes_behind.Goals as goal

pub new-requires : goal.new-requires
new-requires c = item_is_a_rule
