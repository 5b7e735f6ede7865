use Rattle.std.proofs.Common.{option_map, rules, ap, sym, ◌∙◌}
use Rattle.rdf_meaning.specs.Rows.{row_seen}
use Rattle.rdf_counts.proofs.Taking.{statement_taken, takes_both, takes_front}
use Rattle.rdf_counts.proofs.count.count_statement.Goals as goal

pub returns-in_err-left : goal.returns-in_err-left
returns-in_err-left c =
    statement_taken c.args.arena.now.trees c.args.kids.now c.args.tag c.in-Some.row _ c.args.left c.from_residual.result (search rules) (sym c.is_left_out.ensures ∙ c.if-is_left_out.false) c.axiom_rows.ensures (ap (option_map row_seen) (sym c.in-Some.is) ∙ c.row_for.ensures)
    (takes_front c.args.left _ _ c.from_residual.result (search rules) (search rules))

pub returns : goal.returns
returns c =
    statement_taken c.args.arena.now.trees c.args.kids.now c.args.tag c.in-Some.row _ c.args.left c.count_kids.result (search rules) (sym c.is_left_out.ensures ∙ c.if-is_left_out.false) c.axiom_rows.ensures (ap (option_map row_seen) (sym c.in-Some.is) ∙ c.row_for.ensures)
    (takes_both c.args.left c.in_ok-left.left _ _ c.count_kids.result (search rules) c.count_kids.ensures)
