use Rattle.owl_characters.proofs.ResultLaws.{passed}
use Rattle.rdf_annotations.proofs.AnnotationLaws.{all_have_sets}
use Rattle.rdf_statements.proofs.Adding.{known_still}
use Rattle.rdf_statements.proofs.Stating.{noted_fault, statements_are, tree_fault}
use Rattle.rdf_statements.proofs.statements.hold_known.Goals as goal

pub hold_annotations-requires-clause-known : goal.hold_annotations-requires-clause-known
hold_annotations-requires-clause-known g c = λ t _ _ _.
    let known = c.args.known.now in
    all_have_sets known.annotated.reading.graph.now known.annotated.reading.roles.now known.sets.now.of_nodes.items c.requires.sets.all t

pub returns-in_err-annotations-clause-fault : goal.returns-in_err-annotations-clause-fault
returns-in_err-annotations-clause-fault g c =
    let reading = c.args.known.now.annotated.reading in
    passed c.from_residual.result c.in_err-annotations.field-0.0 _ c.from_residual.ensures.1
    (tree_fault reading.graph.now reading.kinds.now reading.header.now c.in_err-annotations.field-0.0
    (noted_fault reading.graph.now reading.kinds.now reading.header.now c.in_err-annotations.field-0.0 c.in_err-annotations.ensures.fault))

pub hold_all_axioms-requires : goal.hold_all_axioms-requires
hold_all_axioms-requires g c =
    let stands = g.S.TreeStore.stands in
    known_still (stands c.args.store.now) (stands c.hold_annotations.new.store) c.hold_annotations.ensures.kept c.args.known.now c.requires

pub returns-clause-stated : goal.returns-clause-stated
returns-clause-stated g c =
    let stands = g.S.TreeStore.stands in
    let reading = c.args.known.now.annotated.reading in
    statements_are reading.graph.now reading.kinds.now reading.header.now (stands c.hold_annotations.new.store) (stands c.hold_all_axioms.new.store) c.hold_all_axioms.ensures.kept
    c.in_ok-annotations.annotations.items c.in_ok-axioms.axioms.items c.in_ok-annotations.ensures.annotations c.in_ok-axioms.ensures.held
