use Rattle.std.specs.Prelude.{◌<◌, ℕ, List}
use Rattle.std.proofs.Common.{subst, sym, ◌∙◌}
use Rattle.rdf_graph.specs.declared.term.Term.TheVariants.{Blank}
use Rattle.rdf_annotations.specs.Annotations.{HaveSetsAt, IsSetOf}
use Rattle.rdf_annotations.proofs.Passing.{passed_by, passed_with}
use Rattle.rdf_annotations.proofs.annotated.Annotated.add_set.Goals as goal

pub returns-then-not-is_note-clause-sets : goal.returns-then-not-is_note-clause-sets
returns-then-not-is_note-clause-sets g c = λ passed h.
    let r = c.args.self.now.reading in
    passed_by (g.S.TreeStore.stands c.args.store.now) r.graph.now r.kinds.now r.roles.now passed c.args.sets.now.of_nodes.items c.args.sets.now.empty h c.args.number c.in-Some.label.now c.in-Some.ensures
    (λ note. let is = c.is_note.ensures.1 (c.role.ensures r.graph.now c.requires.annotated.reading.table ∙ note) in let isnt = c.if-not-is_note.true in cc)

pub hold_set-requires-clause-known : goal.hold_set-requires-clause-known
hold_set-requires-clause-known g c =
    let r = c.args.self.now.reading in
    let note = sym (c.role.ensures r.graph.now c.requires.annotated.reading.table) ∙ c.is_note.ensures.0 c.if-not-is_note.false in
    subst (λ (label : List ℕ). HaveSetsAt r.graph.now r.kinds.now r.header.now r.roles.now c.args.sets.now.of_nodes.items (Blank label)) (sym c.in_ok-copy.ensures)
    (c.requires.known c.in-Some.label.now c.in-Some.ensures note)

pub returns-clause-sets : goal.returns-clause-sets
returns-clause-sets g c = λ passed h.
    let r = c.args.self.now.reading in
    let new = g.S.TreeStore.stands c.hold_set.new.store in
    passed_with (g.S.TreeStore.stands c.args.store.now) r.graph.now r.kinds.now r.roles.now passed c.args.sets.now.of_nodes.items c.args.sets.now.empty h new c.hold_set.ensures.kept c.args.number
    c.in-Some.label.now c.in_ok-set.set (subst (λ n. c.args.number < n) (sym c.requires.sets.places) c.requires.number) c.in-Some.ensures
    (subst (λ (label : List ℕ). IsSetOf new r.graph.now r.kinds.now (Blank label) c.in_ok-set.set) c.in_ok-copy.ensures c.in_ok-set.ensures.set)
