use Rattle.rdf_reverse.proofs.KeptLaws.{same_declarations, same_headers}
use Rattle.rdf_reverse.proofs.laws.redundant_triples_name_and_declare_nothing.Goals as goal

pub returns-clause-headers : goal.returns-clause-headers
returns-clause-headers c g = same_headers g

pub returns-clause-declarations : goal.returns-clause-declarations
returns-clause-declarations c g = same_declarations g
