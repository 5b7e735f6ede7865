use Rattle.rdf_meaning.proofs.ShapeLaws.{each_axiom_has_a_row, each_expression_has_a_row, each_way_has_a_row}
use Rattle.rdf_meaning.proofs.laws.rows_are_complete.Goals as goal

pub returns-clause-expressions : goal.returns-clause-expressions
returns-clause-expressions c = each_way_has_a_row

pub returns-clause-axiom_tags : goal.returns-clause-axiom_tags
returns-clause-axiom_tags c = each_axiom_has_a_row

pub returns-clause-expression_tags : goal.returns-clause-expression_tags
returns-clause-expression_tags c = each_expression_has_a_row
