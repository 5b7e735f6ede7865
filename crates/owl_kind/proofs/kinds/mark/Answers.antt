use Rattle.std.proofs.Common.{◌∙◌, ap}
use Rattle.owl_kind.specs.declared.marks.Marks.{Marks}
use Rattle.owl_kind.specs.Marks.{marked}
use Rattle.owl_kind.proofs.Declarations.{declared_after, table_after}
use Rattle.owl_kind.proofs.kinds.mark.Goals as goal

pub returns-clause-table : goal.returns-clause-table
returns-clause-table c =
    let marks = c.with-marks.ensures ∙ ap (λ (m : Marks). marked m c.args.kind) c.marks_of.ensures in
    table_after c.args.table.now.entries _ c.requires c.insert.ensures.unique c.args.kind c.args.iri (rw (← marks) c.in_ok-insert.ensures.entries)

pub returns-clause-ok : goal.returns-clause-ok
returns-clause-ok c =
    let marks = c.with-marks.ensures ∙ ap (λ (m : Marks). marked m c.args.kind) c.marks_of.ensures in
    declared_after c.args.table.now.entries _ c.requires (returns-clause-table c) c.args.kind c.args.iri (λ q. rw (← marks) (c.in_ok-insert.ensures.updates.0 q))
