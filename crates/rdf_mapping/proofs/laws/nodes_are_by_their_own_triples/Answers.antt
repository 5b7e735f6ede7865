use Rattle.rdf_mapping.specs.OwnLaws.{chosen_own, facets_own, role_own}
use Rattle.rdf_mapping.proofs.laws.nodes_are_by_their_own_triples.Goals as goal

pub returns-clause-chosen : goal.returns-clause-chosen
returns-clause-chosen c = chosen_own

pub returns-clause-facets : goal.returns-clause-facets
returns-clause-facets c = facets_own

pub returns-clause-role : goal.returns-clause-role
returns-clause-role c = role_own
