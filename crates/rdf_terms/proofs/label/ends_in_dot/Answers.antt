use Rattle.rdf_terms.proofs.Labels.{ends_is}
use Rattle.rdf_terms.proofs.label.ends_in_dot.Goals as goal

pub returns : goal.returns
returns c = ends_is c.ends_with.result c.args.text.now c.utf8.text c.ends_with.ensures.cases
