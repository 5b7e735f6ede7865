use Rattle.rdf_meaning.proofs.NodeLaws.{chosen_is, nodes_are}
use Rattle.rdf_meaning.proofs.laws.nodes_are_by_their_triples.Goals as goal

pub returns-clause-chosen : goal.returns-clause-chosen
returns-clause-chosen c = chosen_is

pub returns-clause-nodes : goal.returns-clause-nodes
returns-clause-nodes c = nodes_are
