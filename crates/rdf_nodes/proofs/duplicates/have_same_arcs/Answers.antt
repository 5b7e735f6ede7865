use Rattle.rdf_nodes.proofs.Duplicating.{same_arcs}
use Rattle.rdf_nodes.proofs.duplicates.have_same_arcs.Goals as goal

pub returns : goal.returns
returns c same =
    same_arcs c.args.source.now.graph.now c.args.first.now c.args.second.now c.in_ok-copy.field-0 c.in_ok-copy-2.field-0 c.about.result.now c.about-2.result.now
    c.in_ok-copy.ensures c.in_ok-copy-2.ensures c.about.ensures c.about-2.ensures (c.are_same.ensures same)
