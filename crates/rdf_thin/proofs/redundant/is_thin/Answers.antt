use Rattle.rdf_thin.proofs.ThinnedLaws.{all_stay}
use Rattle.rdf_thin.proofs.redundant.is_thin.Goals as goal

pub returns : goal.returns
returns c = all_stay c.args.graph.now c.none_is_redundant.result c.triples.result.now c.none_is_redundant.ensures c.triples.ensures.triples
