use Rattle.std.proofs.Common.{subst}
use Rattle.rdf_graph.specs.ByObject.{IsIndex}
use Rattle.rdf_graph.proofs.Index.{is_graph}
use Rattle.rdf_graph.proofs.gather.Gather.finish.Goals as goal

pub invariant_of-result : goal.invariant_of-result
invariant_of-result c = (
  is_graph c.self.inside.triples.items c.in_ok-triples.triples.items c.self.invariant c.in_ok-triples.ensures.ok c.in_ok-triples.ensures.few,
  subst (λ triples. IsIndex triples c.in_ok-places_by_object.field-0.items) c.deref.ensures.value c.in_ok-places_by_object.ensures,
)
