use Rattle.rdf_faults.proofs.FaultLaws.{no_reservation, no_untyped_part, no_untyped_statement}
use Rattle.rdf_faults.proofs.laws.triples_have_no_fault.Goals as goal

pub returns-clause-reserved : goal.returns-clause-reserved
returns-clause-reserved c = no_reservation

pub returns-clause-part : goal.returns-clause-part
returns-clause-part c = no_untyped_part

pub returns-clause-statement : goal.returns-clause-statement
returns-clause-statement c = no_untyped_statement
