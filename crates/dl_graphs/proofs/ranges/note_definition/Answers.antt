use Rattle.owl_arena.specs.Held.{tree_at}
use Rattle.dl_rules.specs.Definitions.{definition_of}
use Rattle.dl_graphs.proofs.RangeLaws.{always_named, noted_by}
use Rattle.dl_graphs.proofs.ranges.note_definition.Goals as goal

pub returns-in_ok-note_range : goal.returns-in_ok-note_range
returns-in_ok-note_range c =
    let ts = c.args.arena.now.trees in
    noted_by ts c.in-Some.ids (definition_of (tree_at ts c.args.id)) c.in-Some.ensures c.in-Some-datatype_at.iri.now c.in_ok-iri.iri c.in-Some-datatype_at.ensures c.in_ok-iri.ensures c.args.table.now.entries c.note_range.new.table.entries c.in_ok-note_range.ensures

pub returns-in_default-datatype_at : goal.returns-in_default-datatype_at
returns-in_default-datatype_at c =
    let ts = c.args.arena.now.trees in
    absurd (always_named ts c.in-Some.ids (definition_of (tree_at ts c.args.id)) c.in-Some.ensures c.in_default-datatype_at.ensures)
