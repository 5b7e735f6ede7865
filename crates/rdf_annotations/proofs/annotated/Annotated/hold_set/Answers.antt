use Rattle.std.specs.Prelude.{List}
use Rattle.std.proofs.Common.{subst}
use Rattle.rdf_graph.specs.declared.triple.Triple.{Triple}
use Rattle.rdf_meaning.specs.Statements.{Annotates}
use Rattle.rdf_annotations.proofs.AnnotationLaws.{annotations_of_node}
use Rattle.rdf_annotations.proofs.Setting.{set_held, set_refused}
use Rattle.rdf_annotations.proofs.annotated.Annotated.hold_set.Goals as goal

pub returns-clause-set : goal.returns-clause-set
returns-clause-set g c =
    let r = c.args.self.now.reading in
    let a = c.in_ok-annotations.ensures.annotations in
    let same = annotations_of_node r.graph.now r.kinds.now r.header.now c.args.node.now c.requires.annotated.reading.one_header c.requires.annotated.reading.formed c.requires.noted in
    set_held (g.S.TreeStore.stands c.hold_node.new.self) r.graph.now r.kinds.now r.header.now c.args.node.now a.trees c.requires.noted
    (subst (λ (ts : List Triple). Annotates r.graph.now r.kinds.now ts a.trees) same a.annotates) c.hold_node.result (c.hold_node.ensures.held a.trees a.stand)

pub returns-clause-fault : goal.returns-clause-fault
returns-clause-fault g c =
    let r = c.args.self.now.reading in
    let a = c.in_ok-annotations.ensures.annotations in
    let same = annotations_of_node r.graph.now r.kinds.now r.header.now c.args.node.now c.requires.annotated.reading.one_header c.requires.annotated.reading.formed c.requires.noted in
    set_refused (g.S.TreeStore.stands c.hold_node.new.self) r.graph.now r.kinds.now r.header.now c.args.node.now a.trees c.requires.noted
    (subst (λ (ts : List Triple). Annotates r.graph.now r.kinds.now ts a.trees) same a.annotates) c.hold_node.result (c.hold_node.ensures.fault a.trees a.stand)
