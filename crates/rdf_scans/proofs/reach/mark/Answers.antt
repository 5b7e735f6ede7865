use Rattle.std.proofs.Common.{arith, subst}
use Rattle.rdf_scans.specs.Reach.{IsNumberWithRole}
use Rattle.rdf_scans.proofs.Marking.{no_node, node_beyond, one_mark}
use Rattle.rdf_scans.proofs.reach.mark.Goals as goal

pub returns-then-number-len : goal.returns-then-number-len
returns-then-number-len c =
    one_mark c.args.reading.now.graph.now c.args.term.now c.args.marks.now.items c.in-Some.number (subst (IsNumberWithRole c.args.reading.now.graph.now c.args.term.now) c.in-Some.is c.number_of.ensures)
    (omega (arith, c.if-number-len.true, c.len.ensures, c.args.marks.now.ok.0))

pub returns-else-number-len : goal.returns-else-number-len
returns-else-number-len c =
    node_beyond c.args.reading.now.graph.now c.args.term.now c.args.marks.now.items c.in-Some.number (subst (IsNumberWithRole c.args.reading.now.graph.now c.args.term.now) c.in-Some.is c.number_of.ensures)
    (omega (arith, c.if-number-len.false, c.len.ensures, c.args.marks.now.ok.0))

pub returns-in_default : goal.returns-in_default
returns-in_default c =
    no_node c.args.reading.now.graph.now c.args.term.now c.args.marks.now.items (subst (IsNumberWithRole c.args.reading.now.graph.now c.args.term.now) c.in_default.is c.number_of.ensures)
