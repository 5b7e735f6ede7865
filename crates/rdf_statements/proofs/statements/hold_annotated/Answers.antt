use Rattle.owl_characters.proofs.ResultLaws.{passed}
use Rattle.rdf_statements.proofs.Stating.{noted_fault, tree_fault}
use Rattle.rdf_statements.proofs.statements.hold_annotated.Goals as goal

pub returns-in_err-sets-clause-fault : goal.returns-in_err-sets-clause-fault
returns-in_err-sets-clause-fault g c =
    let reading = c.args.annotated.now.reading in
    passed c.from_residual.result c.in_err-sets.field-0.0 _ c.from_residual.ensures.1
    (tree_fault reading.graph.now reading.kinds.now reading.header.now c.in_err-sets.field-0.0
    (noted_fault reading.graph.now reading.kinds.now reading.header.now c.in_err-sets.field-0.0 c.in_err-sets.ensures.fault))
