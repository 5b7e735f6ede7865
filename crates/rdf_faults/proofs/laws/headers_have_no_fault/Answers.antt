use Rattle.rdf_faults.proofs.FaultLaws.{no_bad_header, no_missing_header, no_second_header}
use Rattle.rdf_faults.proofs.laws.headers_have_no_fault.Goals as goal

pub returns-clause-some : goal.returns-clause-some
returns-clause-some c = no_missing_header

pub returns-clause-no_second : goal.returns-clause-no_second
returns-clause-no_second c = no_second_header

pub returns-clause-good : goal.returns-clause-good
returns-clause-good c = no_bad_header
