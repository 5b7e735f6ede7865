use Rattle.rdf_faults.proofs.ConverseLaws.{faultless_says, head_of_header, says_faultless}
use Rattle.rdf_faults.proofs.laws.graphs_without_faults_say_an_ontology.Goals as goal

pub returns-clause-says : goal.returns-clause-says
returns-clause-says c = faultless_says

pub returns-clause-no_fault : goal.returns-clause-no_fault
returns-clause-no_fault c = says_faultless

pub returns-clause-head : goal.returns-clause-head
returns-clause-head c = head_of_header
