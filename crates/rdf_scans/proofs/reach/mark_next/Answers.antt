use Rattle.std.proofs.Common.{ℕ, List, ap, sym, subst, ◌≡◌, ◌∙◌, Some, slice_get}
use Rattle.rdf_roles.proofs.NodeLaws.{keys_are}
use Rattle.rdf_scans.specs.Reach.{has_mark, reaches_on}
use Rattle.rdf_scans.proofs.Marking.{marks_as}
use Rattle.rdf_scans.proofs.Reaching.{nothing_next, objects_next}
use Rattle.rdf_scans.proofs.reach.mark_next.Goals as goal

pub returns-in_ok-triples : goal.returns-in_ok-triples
returns-in_ok-triples c =
    let reading = c.args.reading.now in
    let g = reading.graph.now in
    let marks = c.args.marks.now.items in
    let label = c.in-Some.label.now in
    let r = c.role-role.result in
    let table = c.requires.reading.table in
    let at = subst (λ (ls : List (List ℕ)). slice_get ls c.args.number ≡ Some label) (keys_are g reading.roles.now.nodes table.nodes) c.in-Some.ensures in
    let told = ap (λ ms. reaches_on r (has_mark ms c.args.number)) (sym c.deref.ensures.value) ∙ ap (reaches_on r) (sym c.has_mark.ensures) ∙ sym c.reaches_on.ensures in
    marks_as (objects_next g marks c.args.number label at r c.in_ok-triples.triples.now (c.role-role.ensures g table) c.in_ok-triples.ensures (told ∙ c.if-reaches_on.true))
    c.mark_objects.ensures

pub returns-else-reaches_on : goal.returns-else-reaches_on
returns-else-reaches_on c =
    let reading = c.args.reading.now in
    let g = reading.graph.now in
    let marks = c.args.marks.now.items in
    let label = c.in-Some.label.now in
    let r = c.role-role.result in
    let table = c.requires.reading.table in
    let at = subst (λ (ls : List (List ℕ)). slice_get ls c.args.number ≡ Some label) (keys_are g reading.roles.now.nodes table.nodes) c.in-Some.ensures in
    let told = ap (λ ms. reaches_on r (has_mark ms c.args.number)) (sym c.deref.ensures.value) ∙ ap (reaches_on r) (sym c.has_mark.ensures) ∙ sym c.reaches_on.ensures in
    nothing_next g marks c.args.number label at r (c.role-role.ensures g table) (told ∙ c.if-reaches_on.false)
