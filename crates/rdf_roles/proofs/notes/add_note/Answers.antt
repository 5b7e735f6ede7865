use Rattle.std.proofs.Common.{◌∙◌, sym}
use Rattle.std.proofs.lemmas.Bool.{both_ways}
use Rattle.rdf_graph.specs.declared.term.Term.TheVariants.{Blank}
use Rattle.rdf_roles.proofs.NotedUnder.{no_node_is_noted, note_is_noted, other_is_not_noted}
use Rattle.rdf_roles.proofs.notes.add_note.Goals as goal

pub returns-in-None : goal.returns-in-None
returns-in-None c = no_node_is_noted c.args.graph.now c.args.number _ c.requires.ways (c.in-None.ensures c.args.graph.now c.requires.table)

pub returns-then-not-is_note : goal.returns-then-not-is_note
returns-then-not-is_note c =
    let node = c.in-Some.ensures c.args.graph.now c.requires.table in
    other_is_not_noted c.args.graph.now c.args.number _ c.requires.ways c.in-Some.node.0.now node.0
    (λ e. both_ways c.is_note.result c.if-not-is_note.true (c.is_note.ensures.1 (node.1 ∙ e)))

pub returns : goal.returns
returns c =
    let node = c.in-Some.ensures c.args.graph.now c.requires.table in
    let is = sym node.1 ∙ c.is_note.ensures.0 c.if-not-is_note.false in
    note_is_noted c.args.graph.now c.args.number _ c.requires.ways c.in-Some.node.0.now node.0 is c.in_ok-about.field-0.now c.in_ok-about.ensures _
    (c.in_ok-add_unders.ensures (Blank c.in-Some.node.0.now) c.in_ok-about.ensures is)
