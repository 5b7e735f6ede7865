use Rattle.std.proofs.Common.{sym, ◌∙◌}
use Rattle.rdf_scans.proofs.NothingFound.{at_node, not_at_node}
use Rattle.rdf_scans.proofs.notes.node_of_nothing.Goals as goal

pub returns-then-marks_nothing : goal.returns-then-marks_nothing
returns-then-marks_nothing c =
    at_node c.args.reading.now c.args.triple.now c.in-Blank.label c.in-Blank.is (sym c.marks_nothing.ensures ∙ c.if-marks_nothing.true)

pub returns-else-marks_nothing : goal.returns-else-marks_nothing
returns-else-marks_nothing c =
    not_at_node c.args.reading.now c.args.triple.now (sym c.marks_nothing.ensures ∙ c.if-marks_nothing.false)
