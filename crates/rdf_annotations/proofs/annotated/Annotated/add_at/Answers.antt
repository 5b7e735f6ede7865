use Rattle.std.proofs.Common.{ap, sym, ◌∙◌}
use Rattle.std.proofs.lemmas.Option.{same_Some}
use Rattle.std.proofs.lemmas.Result.{on_ok_weaker}
use Rattle.rdf_meaning.specs.Statements.{is_annotation_triple}
use Rattle.rdf_annotations.proofs.Saying.{nothing_said, said_there, something_said}
use Rattle.rdf_annotations.proofs.annotated.Annotated.add_at.Goals as goal

pub returns-then-not-is_annotation-clause-added : goal.returns-then-not-is_annotation-clause-added
returns-then-not-is_annotation-clause-added g c = λ t at.
    let r = c.args.self.now.reading in
    nothing_said r.graph.now r.kinds.now r.header.now (g.S.TreeStore.stands c.args.store.now) t c.at-triple.result.now c.args.annotations.now.items c.is_annotation.result
    (same_Some t c.at-triple.result.now (sym at ∙ c.at-triple.ensures.at)) c.is_annotation.ensures c.if-not-is_annotation.true

pub said-requires-clause-known : goal.said-requires-clause-known
said-requires-clause-known g c = λ t at.
    let r = c.args.self.now.reading in
    c.requires.known t at
    (said_there r.graph.now r.kinds.now r.header.now c.args.place t c.is_annotation.result c.requires.place at
    (c.is_annotation.ensures ∙ ap (is_annotation_triple r.graph.now r.kinds.now r.header.now) (same_Some c.at-triple.result.now t (sym c.at-triple.ensures.at ∙ at)))
    c.if-not-is_annotation.false).1

pub said-requires-clause-typed : goal.said-requires-clause-typed
said-requires-clause-typed g c = λ t at.
    let r = c.args.self.now.reading in
    let is =
    said_there r.graph.now r.kinds.now r.header.now c.args.place t c.is_annotation.result c.requires.place at
    (c.is_annotation.ensures ∙ ap (is_annotation_triple r.graph.now r.kinds.now r.header.now) (same_Some c.at-triple.result.now t (sym c.at-triple.ensures.at ∙ at)))
    c.if-not-is_annotation.false in
    c.requires.annotated.typed t is.0 is.1

pub add_said-requires-clause-annotation : goal.add_said-requires-clause-annotation
add_said-requires-clause-annotation g c =
    let r = c.args.self.now.reading in
    said_there r.graph.now r.kinds.now r.header.now c.args.place c.at-triple.result.now c.is_annotation.result c.requires.place c.at-triple.ensures.at c.is_annotation.ensures
    c.if-not-is_annotation.false

pub returns-clause-added : goal.returns-clause-added
returns-clause-added g c = λ t at.
    let r = c.args.self.now.reading in
    on_ok_weaker c.add_said.result
    (something_said r.graph.now r.kinds.now r.header.now (g.S.TreeStore.stands c.args.store.now) (g.S.TreeStore.stands c.said.new.store) (g.S.TreeStore.stands c.add_said.new.store)
    t c.at-triple.result.now c.args.annotations.now.items c.add_said.new.annotations.items c.is_annotation.result
    (same_Some t c.at-triple.result.now (sym at ∙ c.at-triple.ensures.at)) c.is_annotation.ensures c.if-not-is_annotation.false c.said.ensures.kept)
    c.add_said.ensures.added
