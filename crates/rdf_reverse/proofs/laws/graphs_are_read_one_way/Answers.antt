use Rattle.rdf_reverse.proofs.ReverseLaws.{limits_alone, never_both, said_one_way, unsaid_one_way}
use Rattle.rdf_reverse.proofs.laws.graphs_are_read_one_way.Goals as goal

pub returns-clause-ontology : goal.returns-clause-ontology
returns-clause-ontology c = said_one_way

pub returns-clause-fault : goal.returns-clause-fault
returns-clause-fault c = unsaid_one_way

pub returns-clause-apart : goal.returns-clause-apart
returns-clause-apart c = never_both

pub returns-clause-limit : goal.returns-clause-limit
returns-clause-limit c = limits_alone
