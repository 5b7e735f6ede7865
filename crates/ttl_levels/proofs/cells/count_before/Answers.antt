use Rattle.ttl_levels.proofs.NestLaws.{count_before_one}
use Rattle.ttl_levels.proofs.cells.count_before.Goals as goal

pub returns-in-Some : goal.returns-in-Some
returns-in-Some c = λ g h. count_before_one g c.args.rest.now c.args.count c.in-Some.cells c.if-count-eq0.false c.in-Some.ensures.1 h
