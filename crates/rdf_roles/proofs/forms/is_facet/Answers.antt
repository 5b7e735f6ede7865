use Rattle.rdf_roles.proofs.NodeForms.{one_facet}
use Rattle.rdf_roles.proofs.forms.is_facet.Goals as goal

pub returns : goal.returns
returns c = one_facet (λ t. t.now) c.only_facet.result c.args.triples.now c.is_some.result c.only_facet.ensures c.is_some.ensures
