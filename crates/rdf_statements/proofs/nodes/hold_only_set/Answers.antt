use Rattle.rdf_annotations.proofs.AnnotationLaws.{all_have_sets}
use Rattle.rdf_statements.proofs.nodes.hold_only_set.Goals as goal

pub hold_set-requires-clause-known : goal.hold_set-requires-clause-known
hold_set-requires-clause-known g c = λ t _ _ _.
    let known = c.args.known.now in
    all_have_sets known.annotated.reading.graph.now known.annotated.reading.roles.now known.sets.now.of_nodes.items c.requires.known.sets.all t
