use Rattle.rdf_rows.proofs.NodeTripleLaws.{cell_is, only_is, reification_is}
use Rattle.rdf_rows.proofs.laws.only_ones_are_told.Goals as goal

pub returns-clause-objects : goal.returns-clause-objects
returns-clause-objects c = only_is

pub returns-clause-triples : goal.returns-clause-triples
returns-clause-triples c = only_is

pub returns-clause-cells : goal.returns-clause-cells
returns-clause-cells c = cell_is

pub returns-clause-reifications : goal.returns-clause-reifications
returns-clause-reifications c = reification_is
