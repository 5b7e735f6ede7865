use Rattle.rdf_mapping.proofs.SpellingLaws.{axiom_row_written_well, node_row_written_well, spelled_fits, spelled_holds}
use Rattle.rdf_mapping.proofs.laws.nodes_are_of_the_rows_that_they_spell.Goals as goal

pub returns-clause-expression_rows : goal.returns-clause-expression_rows
returns-clause-expression_rows c = node_row_written_well

pub returns-clause-axiom_rows : goal.returns-clause-axiom_rows
returns-clause-axiom_rows c = axiom_row_written_well

pub returns-clause-fits : goal.returns-clause-fits
returns-clause-fits c = spelled_fits

pub returns-clause-holds : goal.returns-clause-holds
returns-clause-holds c = spelled_holds
