use Rattle.std.proofs.Common.{arith}
use Rattle.range_restrictions.proofs.Stating.{range_says_none, says_range}
use Rattle.range_restrictions.proofs.statements.range_statement.Goals as goal

pub returns-in-len2 : goal.returns-in-len2
returns-in-len2 c =
    λ ts held. rw (c.place.ensures, c.place-in-len2.ensures)
    (says_range ts c.args.operands.now c.property-item.result c.class-item.result held c.in-len2.len_at_least c.in-len2.len_below c.property-item.is c.class-item.is)

pub returns-in_default : goal.returns-in_default
returns-in_default c = λ ts held. range_says_none ts c.args.operands.now (λ two. omega (arith, c.in_default.len_below, two))

pub returns-in_default-2 : goal.returns-in_default-2
returns-in_default-2 c = λ ts held. range_says_none ts c.args.operands.now (λ two. omega (arith, c.in_default.len_at_least, two))
