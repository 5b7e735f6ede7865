use Rattle.std.proofs.Common.{arith}
use Rattle.range_restrictions.proofs.Stating.{sub_says_none}
use Rattle.range_restrictions.proofs.statements.sub_statement.Goals as goal

pub returns-in_default : goal.returns-in_default
returns-in_default c = sub_says_none c.args.arena.now.trees c.args.operands.now (λ two. omega (arith, c.in_default.len_below, two))

pub returns-in_default-2 : goal.returns-in_default-2
returns-in_default-2 c = sub_says_none c.args.arena.now.trees c.args.operands.now (λ two. omega (arith, c.in_default.len_at_least, two))
