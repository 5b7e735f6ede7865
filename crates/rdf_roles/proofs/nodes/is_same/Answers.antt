use Rattle.std.proofs.Common.{◌∙◌}
use Rattle.rdf_roles.proofs.Walk.{equal_is_same}
use Rattle.rdf_roles.proofs.nodes.is_same.Goals as goal

pub returns : goal.returns
returns c = c.eq.ensures ∙ equal_is_same c.args.term.now c.args.other.now
