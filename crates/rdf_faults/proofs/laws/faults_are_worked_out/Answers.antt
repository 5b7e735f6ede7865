use Rattle.rdf_faults.specs.WorkedCases.{empty_union_is_bad, half_cell_is_bad, literal_is_untyped, nothing_asked, takes_reserved}
use Rattle.rdf_faults.proofs.laws.faults_are_worked_out.Goals as goal

pub returns-clause-cell : goal.returns-clause-cell
returns-clause-cell c = half_cell_is_bad

pub returns-clause-union : goal.returns-clause-union
returns-clause-union c = empty_union_is_bad

pub returns-clause-not_asked : goal.returns-clause-not_asked
returns-clause-not_asked c = nothing_asked

pub returns-clause-literal : goal.returns-clause-literal
returns-clause-literal c = literal_is_untyped

pub returns-clause-reserved : goal.returns-clause-reserved
returns-clause-reserved c = takes_reserved
