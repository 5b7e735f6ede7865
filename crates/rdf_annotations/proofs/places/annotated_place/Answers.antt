use Rattle.std.specs.Prelude.{◌≡◌, ℕ, List, Some, slice_get}
use Rattle.std.proofs.Common.{subst, sym, ◌∙◌}
use Rattle.std.proofs.lemmas.Bool.{both_ways}
use Rattle.rdf_roles.proofs.NodeLaws.{keys_are}
use Rattle.rdf_annotations.proofs.Reifying.{is_formed, noted_node, other_node}
use Rattle.rdf_annotations.proofs.places.annotated_place.Goals as goal

pub returns-then-not-is_note : goal.returns-then-not-is_note
returns-then-not-is_note c =
    let r = c.args.reading.now in
    let keys = keys_are r.graph.now r.roles.now.nodes c.requires.reading.table.nodes in
    other_node r.graph.now c.args.number c.in-Some.label.now (subst (λ (ls : List (List ℕ)). slice_get ls c.args.number ≡ Some c.in-Some.label.now) keys c.in-Some.ensures)
    (λ e. both_ways c.is_note.result c.if-not-is_note.true (c.is_note.ensures.1 (c.role.ensures r.graph.now c.requires.reading.table ∙ e)))

pub noted_place-requires : goal.noted_place-requires
noted_place-requires c =
    let r = c.args.reading.now in
    let keys = keys_are r.graph.now r.roles.now.nodes c.requires.reading.table.nodes in
    is_formed r.graph.now c.args.number c.in-Some.label.now (subst (λ (ls : List (List ℕ)). slice_get ls c.args.number ≡ Some c.in-Some.label.now) keys c.in-Some.ensures)
    c.in_ok-note.note.now c.in_ok-note.ensures (sym (c.role.ensures r.graph.now c.requires.reading.table) ∙ c.is_note.ensures.0 c.if-not-is_note.false) c.requires.reading.formed

pub returns : goal.returns
returns c =
    let r = c.args.reading.now in
    let keys = keys_are r.graph.now r.roles.now.nodes c.requires.reading.table.nodes in
    noted_node r.graph.now c.args.number c.in-Some.label.now (subst (λ (ls : List (List ℕ)). slice_get ls c.args.number ≡ Some c.in-Some.label.now) keys c.in-Some.ensures)
    c.in_ok-note.note.now c.in_ok-note.ensures (sym (c.role.ensures r.graph.now c.requires.reading.table) ∙ c.is_note.ensures.0 c.if-not-is_note.false)
    c.noted_place.result c.noted_place.ensures
