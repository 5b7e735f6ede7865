use Rattle.std.proofs.Common.{sym, ap, ◌∙◌}
use Rattle.owl_doc.specs.Documents.{ontology_of}
use Rattle.owl_doc.specs.Heads.{iri_in}
use Rattle.owl_tree.specs.Ontologies.{Head}
use Rattle.rdf_normal.proofs.SettleTrees.{name_is}
use Rattle.rdf_normal.proofs.Unchanged.{form_is_light, form_stays, none_absorbed, stays_all}
use Rattle.rdf_normal.proofs.staying.is_normal.Goals as goal

pub returns-clause-form : goal.returns-clause-form
returns-clause-form c =
    λ tidy.
    form_stays (ontology_of c.args.doc.now)
    (stays_all c.args.doc.now c.arena-arena.result.now c.notes.result.now c.axioms.result.now c.head.result.now.iri c.notes.ensures.document c.arena-arena.ensures c.notes.ensures.notes c.axioms.ensures.axioms (sym (name_is c.head.result.now.iri c.head.result.now.version) ∙ ap (λ (h : Head). iri_in h.name) c.head.ensures.head) (c.are_bare.ensures c.if-not-are_bare.false) (c.are_kept.ensures c.if-not-are_kept.false) (c.are_tidy.ensures tidy))

pub returns-clause-absorbed : goal.returns-clause-absorbed
returns-clause-absorbed c =
    λ tidy.
    none_absorbed (ontology_of c.args.doc.now)
    (stays_all c.args.doc.now c.arena-arena.result.now c.notes.result.now c.axioms.result.now c.head.result.now.iri c.notes.ensures.document c.arena-arena.ensures c.notes.ensures.notes c.axioms.ensures.axioms (sym (name_is c.head.result.now.iri c.head.result.now.version) ∙ ap (λ (h : Head). iri_in h.name) c.head.ensures.head) (c.are_bare.ensures c.if-not-are_bare.false) (c.are_kept.ensures c.if-not-are_kept.false) (c.are_tidy.ensures tidy))

pub returns-clause-light : goal.returns-clause-light
returns-clause-light c =
    λ tidy.
    form_is_light c.args.doc.now c.notes.ensures.document
    (stays_all c.args.doc.now c.arena-arena.result.now c.notes.result.now c.axioms.result.now c.head.result.now.iri c.notes.ensures.document c.arena-arena.ensures c.notes.ensures.notes c.axioms.ensures.axioms (sym (name_is c.head.result.now.iri c.head.result.now.version) ∙ ap (λ (h : Head). iri_in h.name) c.head.ensures.head) (c.are_bare.ensures c.if-not-are_bare.false) (c.are_kept.ensures c.if-not-are_kept.false) (c.are_tidy.ensures tidy))
