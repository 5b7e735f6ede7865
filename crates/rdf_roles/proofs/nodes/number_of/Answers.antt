use Rattle.rdf_roles.proofs.NodeNumbers.{number_is}
use Rattle.rdf_roles.proofs.nodes.number_of.Goals as goal

pub returns-in-Blank : goal.returns-in-Blank
returns-in-Blank c g e = number_is g c.args.term.now c.in-Blank.label c.args.table.now.entries c.get_index_of.result c.in-Blank.is e c.get_index_of.ensures.index
