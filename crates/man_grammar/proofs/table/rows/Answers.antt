-- No rule stands behind the last; `tools/make_grammar.py` made it.
use Rattle.std.proofs.Common.{arith}
use Rattle.man_grammar.specs.Table.{manchester_beyond}
use Rattle.man_grammar.proofs.table.rows.Goals as goal

pub returns-in_default : goal.returns-in_default
returns-in_default c =
    let others = c.in_default in
    manchester_beyond c.args.rule (omega arith)
