use Rattle.rdf_meaning.proofs.WorkedCases.{cycle_denotes_nothing, restriction_denotes, union_denotes}
use Rattle.rdf_meaning.proofs.WorkedWhole.{small_says}
use Rattle.rdf_meaning.proofs.laws.graphs_are_worked_out.Goals as goal

pub returns-clause-union : goal.returns-clause-union
returns-clause-union c = union_denotes

pub returns-clause-restriction : goal.returns-clause-restriction
returns-clause-restriction c = restriction_denotes

pub returns-clause-says : goal.returns-clause-says
returns-clause-says c = small_says

pub returns-clause-cycle : goal.returns-clause-cycle
returns-clause-cycle c = cycle_denotes_nothing
