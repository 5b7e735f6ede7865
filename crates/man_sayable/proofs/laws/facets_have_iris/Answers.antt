use Rattle.man_sayable.proofs.FacetLaws.{each_named, named_facet}
use Rattle.man_sayable.proofs.laws.facets_have_iris.Goals as goal

pub returns-clause-named : goal.returns-clause-named
returns-clause-named c = named_facet

pub returns-clause-each : goal.returns-clause-each
returns-clause-each c = each_named
