use Rattle.std.proofs.Common.{Err, ap, ◌∙◌}
use Rattle.rdf_thin.proofs.ThinnedLaws.{gathered_few, gathered_set}
use Rattle.rdf_thin.proofs.redundant.thin.Goals as goal

pub unreachable-requires : goal.unreachable-requires
unreachable-requires c =
    gathered_few c.args.graph.now c.triples-triple-items.result.now c.triples.gather c.triples.triple-index c.triples-triple-items.ensures.triples c.triples-test.false
    c.triples.invariant c.triples-triple-items.ensures.graph
    (c.finish.ensures.too_many.0 (c.in-Err-TooMany.is ∙ ap Err c.in-Err-TooMany.field-0-is))

pub returns-in-Ok : goal.returns-in-Ok
returns-in-Ok c =
    c.in-Ok.ensures.ok
    ∙ gathered_set c.args.graph.now c.triples-triple-items.result.now c.triples.gather c.triples.triple-index c.triples-triple-items.ensures.triples c.triples-test.false
    c.triples.invariant c.triples-triple-items.ensures.graph
