-- A row is taken, or one more is not.
use Rattle.std.proofs.Common.{refl}
use Rattle.grammar.proofs.Tables.{among_seen, none_more}
use Rattle.grammar.proofs.table.row_at.Goals as goal

pub returns-then-has_class-clause-found : goal.returns-then-has_class-clause-found
returns-then-has_class-clause-found c =
    record { row = _; among = among_seen c.args.rows.now c.loop-row.row-index _ c.loop-row-test.true; mask = c.has_class.ensures.0 c.if-has_class.true; symbols_are = refl }

pub loop-row-preserved : goal.loop-row-preserved
loop-row-preserved c = none_more c.args.rows.now c.loop-row.row-index c.args.class _ c.loop-row-test.true c.loop-row.invariant c.has_class.result c.if-has_class.false c.has_class.ensures.1
