-- No rule stands behind the last; `tools/make_grammar.py` made it.
use Rattle.std.proofs.Common.{arith}
use Rattle.grammar_tests.specs.ItemsTable.{items_beyond}
use Rattle.grammar_tests.proofs.items_table.rows.Goals as goal

pub returns-in_default : goal.returns-in_default
returns-in_default c =
    let others = c.in_default in
    items_beyond c.args.rule (omega arith)
