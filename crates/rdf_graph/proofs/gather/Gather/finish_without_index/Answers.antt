use Rattle.rdf_graph.proofs.Index.{is_graph}
use Rattle.rdf_graph.proofs.gather.Gather.finish_without_index.Goals as goal

pub invariant_of-result : goal.invariant_of-result
invariant_of-result c = (
  is_graph c.self.inside.triples.items c.in_ok-set_of.field-0.items c.self.invariant c.in_ok-set_of.ensures.ok c.in_ok-set_of.ensures.few,
  tt,
)
