-- The token that is needed is of this class, or of another, or none is needed.
use Rattle.grammar.proofs.Parsers.{takes, takes_none, takes_other}
use Rattle.grammar.proofs.parser.take.Goals as goal

pub returns-in-Some-clause-steps : goal.returns-in-Some-clause-steps
returns-in-Some-clause-steps g c =
    takes g.T.Table.grammar c.args.class _ c.args.acts.now.items _ c.next_needed.new.acts.items _ c.in-Some.needed c.in_ok-needed.ensures.settles c.in-Some.is c.if-needed-class.true

pub returns-in_default-clause-refuses : goal.returns-in_default-clause-refuses
returns-in_default-clause-refuses g c = λ _.
    takes_other g.T.Table.grammar c.args.class _ c.args.acts.now.items _ c.next_needed.new.acts.items _ c.in-Some.needed c.in_ok-needed.ensures.settles c.in-Some.is c.if-needed-class.false

pub returns-in_default-2-clause-refuses : goal.returns-in_default-2-clause-refuses
returns-in_default-2-clause-refuses g c = λ _.
    takes_none g.T.Table.grammar c.args.class _ c.args.acts.now.items c.next_needed.new.stack.items c.next_needed.new.acts.items _ c.in_ok-needed.ensures.settles c.in_default.is (c.in_ok-needed.ensures.nothing c.in_default.is)
