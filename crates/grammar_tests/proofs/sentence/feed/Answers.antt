-- A token was taken, and its acts were moved.
use Rattle.grammar_tests.proofs.Feeding.{fed_token}
use Rattle.grammar_tests.proofs.sentence.feed.Goals as goal

pub returns-clause-fed : goal.returns-clause-fed
returns-clause-fed c = λ front fed.
    fed_token front c.args.parser.now c.feed.new.self c.args.class c.args.acts.now.items c.feed.new.acts.items c.args.events.now.items c.move_acts.new.events.items c.push.new.self.items c.requires c.in_ok-feed.ensures.takes c.in_ok-move_acts.ensures.moved c.in_ok-push.ensures.items fed
