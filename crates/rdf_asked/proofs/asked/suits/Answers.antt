use Rattle.rdf_asked.specs.Asking.{SuitsPart}
use Rattle.rdf_asked.proofs.Suited.{each_passed}
use Rattle.rdf_asked.proofs.asked.suits.Goals as goal

pub loop-part-preserved : goal.loop-part-preserved
loop-part-preserved c =
    each_passed (SuitsPart c.args.source.now.graph.now c.args.source.now.kinds.now c.args.triple.now) c.args.parts.now c.loop-part.part-index _ c.loop-part-test.true c.loop-part.invariant
    (c.suits_part.ensures.0 c.if-not-suits_part.false)
