use Rattle.std.proofs.Common.{subst}
use Rattle.std.specs.List.{AllByRecursion}
use Rattle.rdf_graph.specs.declared.triple.Triple.{Triple}
use Rattle.rdf_asked.specs.Asking.{SuitsPart}
use Rattle.rdf_asked.proofs.Suited.{each_passed}
use Rattle.rdf_asked.proofs.nodes.suit.Goals as goal

pub loop-triple-preserved : goal.loop-triple-preserved
loop-triple-preserved c =
    let all = λ (t : Triple). AllByRecursion (SuitsPart c.args.source.now.graph.now c.args.source.now.kinds.now t) c.args.parts.now in
    each_passed all c.args.triples.now c.loop-triple.triple-index c.triple-item.result c.loop-triple-test.true c.loop-triple.invariant
    (subst all c.triple-item.is (c.suits.ensures.0 c.if-not-suits.false))
