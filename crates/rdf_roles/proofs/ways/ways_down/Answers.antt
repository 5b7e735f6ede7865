use Rattle.std.proofs.Common.{◌∙◌, subst, sym}
use Rattle.std.proofs.lemmas.Bool.{both_ways}
use Rattle.rdf_roles.specs.Ways.{AddsObjects, AreWaysDown}
use Rattle.rdf_roles.proofs.Down.{none_leads_nowhere, note_leads_nowhere, objects_are_below}
use Rattle.rdf_roles.proofs.ways.ways_down.Goals as goal

pub returns-in-None : goal.returns-in-None
returns-in-None c = subst (AreWaysDown c.args.graph.now c.args.number) (sym c.new-nexts.ensures.items) (none_leads_nowhere c.args.graph.now c.args.number (c.in-None.ensures c.args.graph.now c.requires))

pub returns-then-is_note : goal.returns-then-is_note
returns-then-is_note c =
    let node = c.in-Some.ensures c.args.graph.now c.requires in
    subst (AreWaysDown c.args.graph.now c.args.number) (sym c.new-nexts.ensures.items)
    (note_leads_nowhere c.args.graph.now c.args.number c.in-Some.node.0.now node.0 (sym node.1 ∙ c.is_note.ensures.0 c.if-is_note.true))

pub returns : goal.returns
returns c =
    let node = c.in-Some.ensures c.args.graph.now c.requires in
    objects_are_below c.args.graph.now c.args.number c.in-Some.node.0.now node.0 c.in-Some.node.1 c.in_ok-about.field-0.now c.add_objects.new.ways.items node.1
    (λ e. both_ways c.is_note.result c.if-is_note.false (c.is_note.ensures.1 e)) c.in_ok-about.ensures
    (subst (λ old. AddsObjects c.args.graph.now c.in-Some.node.1 c.in_ok-about.field-0.now old c.add_objects.new.ways.items) c.new-nexts.ensures.items
    (c.in_ok-add_objects.ensures c.args.graph.now c.requires))
