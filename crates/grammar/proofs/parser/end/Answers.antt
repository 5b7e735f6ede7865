-- No token is needed, or one is.
use Rattle.grammar.proofs.Parsers.{ends_here, ends_later}
use Rattle.grammar.proofs.parser.end.Goals as goal

pub returns-in-None-clause-finishes : goal.returns-in-None-clause-finishes
returns-in-None-clause-finishes g c =
    ends_here g.T.Table.grammar _ c.args.acts.now.items c.next_needed.new.stack.items c.next_needed.new.acts.items _ c.in_ok-next_needed.ensures.settles c.in-None.is (c.in_ok-next_needed.ensures.nothing c.in-None.is)

pub returns-in-Some-clause-refuses : goal.returns-in-Some-clause-refuses
returns-in-Some-clause-refuses g c = λ _.
    ends_later g.T.Table.grammar _ c.args.acts.now.items _ c.next_needed.new.acts.items _ _ c.in_ok-next_needed.ensures.settles c.in-Some.is
