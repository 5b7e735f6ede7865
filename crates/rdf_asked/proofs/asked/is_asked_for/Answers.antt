use Rattle.rdf_asked.proofs.Suited.{asked_for}
use Rattle.rdf_asked.proofs.asked.is_asked_for.Goals as goal

pub returns-then-has_suited : goal.returns-then-has_suited
returns-then-has_suited c =
    asked_for c.args.source.now.graph.now c.args.source.now.kinds.now c.args.triple.now c.has_suited.result c.if-has_suited.true c.has_suited.ensures
