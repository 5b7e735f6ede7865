-- A fresh parser was fed nothing.
use Rattle.grammar_tests.proofs.Feeding.{fed_nothing_yet, item_is_a_rule}
use Rattle.grammar_tests.proofs.sentence.add_events.Goals as goal

pub new-requires : goal.new-requires
new-requires c = item_is_a_rule

pub feed_whole-requires-clause-fresh : goal.feed_whole-requires-clause-fresh
feed_whole-requires-clause-fresh c = fed_nothing_yet c.in-Ok.parser c.args.events.now.items c.in-Ok.ensures c.requires
