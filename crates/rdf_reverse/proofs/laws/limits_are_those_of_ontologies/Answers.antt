use Rattle.rdf_reverse.proofs.WithinLaws.{said_within}
use Rattle.rdf_reverse.proofs.laws.limits_are_those_of_ontologies.Goals as goal

pub returns : goal.returns
returns c = said_within
