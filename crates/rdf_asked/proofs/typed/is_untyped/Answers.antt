use Rattle.rdf_asked.proofs.FirstUntyped.{untyped_is}
use Rattle.rdf_asked.proofs.typed.is_untyped.Goals as goal

pub returns-then-is_structural : goal.returns-then-is_structural
returns-then-is_structural c =
    untyped_is c.args.source.now.graph.now c.args.source.now.kinds.now c.args.triple.now c.is_structural.result c.is_typed.result c.if-is_structural.true
    (c.is_structural.ensures c.args.source.now.graph.now c.requires.source.table) c.is_typed.ensures
