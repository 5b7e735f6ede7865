use Rattle.std.proofs.Common.{Some, refl}
use Rattle.owl_doc.specs.declared.item.Item.TheVariants.{Header}
use Rattle.owl_answer.proofs.Typings.{axioms_found, header_found, none_found, some_found}
use Rattle.owl_answer.proofs.typing.first_untyped.Goals as goal

pub returns-in-Some-clause-none : goal.returns-in-Some-clause-none
returns-in-Some-clause-none c =
    let d = c.args.doc.now in
    let kinds = c.args.kinds.now in
    none_found kinds d (Some (record { item = Header; kind = c.in-Some.kind; iri = c.in-Some.iri })) (tt, header_found kinds d c.notes.ensures.document _ c.in-Some.ensures.some)

pub returns-in-Some-clause-some : goal.returns-in-Some-clause-some
returns-in-Some-clause-some c = header_found c.args.kinds.now c.args.doc.now c.notes.ensures.document _ c.in-Some.ensures.some

pub returns-in-None-clause-none : goal.returns-in-None-clause-none
returns-in-None-clause-none c =
    let d = c.args.doc.now in
    let kinds = c.args.kinds.now in
    let found = c.untyped_axiom.result in
    none_found kinds d found (axioms_found kinds d c.notes.ensures.document found (c.in-None.ensures.none.0 refl) c.untyped_axiom.ensures)

pub returns-in-None-clause-some : goal.returns-in-None-clause-some
returns-in-None-clause-some c =
    let d = c.args.doc.now in
    let kinds = c.args.kinds.now in
    let found = c.untyped_axiom.result in
    some_found kinds d found (axioms_found kinds d c.notes.ensures.document found (c.in-None.ensures.none.0 refl) c.untyped_axiom.ensures)
