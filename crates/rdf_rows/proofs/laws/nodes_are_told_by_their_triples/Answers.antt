use Rattle.rdf_rows.proofs.NodeTripleLaws.{chosen_is, facets_are, fits_is, roles_are}
use Rattle.rdf_rows.proofs.laws.nodes_are_told_by_their_triples.Goals as goal

pub returns-clause-objects : goal.returns-clause-objects
returns-clause-objects c = chosen_is

pub returns-clause-roles : goal.returns-clause-roles
returns-clause-roles c = roles_are

pub returns-clause-facets : goal.returns-clause-facets
returns-clause-facets c = facets_are

pub returns-clause-fits : goal.returns-clause-fits
returns-clause-fits c = fits_is
