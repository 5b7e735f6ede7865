use Rattle.std.proofs.Common.{None, Some}
use Rattle.owl_doc.specs.declared.item.Item.TheVariants.{Header}
use Rattle.sayable_parts.specs.Reasons.{why_seen}
use Rattle.sayable_parts.proofs.Finding.{axioms_found, header_against, header_found, none_found, some_found}
use Rattle.sayable_parts.proofs.search.first_unsaid.Goals as goal

pub returns-in-Some-clause-none : goal.returns-in-Some-clause-none
returns-in-Some-clause-none g c =
    let objection = g.S.Saying.objection c.args.syntax.now in
    let d = c.args.doc.now in
    let why = c.in-Some.why in
    let against = header_against objection d c.arena.result.now c.notes.result.now (Some (why_seen why)) c.arena.ensures c.notes.ensures.notes c.in-Some.ensures in
    none_found objection d (Some (record { item = Header; why = why })) (tt, header_found objection d (why_seen why) c.notes.ensures.document against)

pub returns-in-Some-clause-some : goal.returns-in-Some-clause-some
returns-in-Some-clause-some g c =
    let objection = g.S.Saying.objection c.args.syntax.now in
    let d = c.args.doc.now in
    let why = c.in-Some.why in
    let against = header_against objection d c.arena.result.now c.notes.result.now (Some (why_seen why)) c.arena.ensures c.notes.ensures.notes c.in-Some.ensures in
    header_found objection d (why_seen why) c.notes.ensures.document against

pub returns-in-None-clause-none : goal.returns-in-None-clause-none
returns-in-None-clause-none g c =
    let objection = g.S.Saying.objection c.args.syntax.now in
    let d = c.args.doc.now in
    let found = c.unsaid_axiom.result in
    let said = header_against objection d c.arena.result.now c.notes.result.now None c.arena.ensures c.notes.ensures.notes c.in-None.ensures in
    none_found objection d found (axioms_found objection d found c.notes.ensures.document said c.unsaid_axiom.ensures)

pub returns-in-None-clause-some : goal.returns-in-None-clause-some
returns-in-None-clause-some g c =
    let objection = g.S.Saying.objection c.args.syntax.now in
    let d = c.args.doc.now in
    let found = c.unsaid_axiom.result in
    let said = header_against objection d c.arena.result.now c.notes.result.now None c.arena.ensures c.notes.ensures.notes c.in-None.ensures in
    some_found objection d found (axioms_found objection d found c.notes.ensures.document said c.unsaid_axiom.ensures)
