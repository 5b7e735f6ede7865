use Rattle.std.proofs.Common.{sym}
use Rattle.ttl_read.proofs.Stacks.{last_is}
use Rattle.ttl_read.proofs.facts.last_nest.Goals as goal

pub returns-in-Some-clause-last : goal.returns-in-Some-clause-last
returns-in-Some-clause-last c = sym (last_is _ c.pop.new.self.items c.in-Some.nest c.in-Some.ensures.items)
