use Rattle.std.proofs.Common.{◌<◌, sym, subst}
use Rattle.rdf_scans.proofs.Reaching.{AreReachedSoFar, all_passed, last_within, none_passed, one_passed}
use Rattle.rdf_scans.proofs.Marking.{so_many}
use Rattle.rdf_scans.proofs.reach.mark_below.Goals as goal

pub loop-number-init : goal.loop-number-init
loop-number-init c =
    let reading = c.args.reading.now in
    let marks = c.args.marks.now.items in
    subst (AreReachedSoFar reading marks) (sym c.order-rest.ensures)
    (none_passed reading marks reading.roles.now.order c.requires.roots c.requires.reading.table.order)

pub mark_next-requires-clause-node : goal.mark_next-requires-clause-node
mark_next-requires-clause-node c =
    let reading = c.args.reading.now in
    subst (λ n. c.in-Some.number.now < n) (sym (so_many reading.graph.now reading.roles.now c.requires.reading.table))
    (last_within reading c.loop-number.marks.items c.loop-number.rest.now c.in-Some.before.now c.in-Some.number.now c.loop-number.invariant c.in-Some.ensures.cases.0)

pub loop-number-preserved : goal.loop-number-preserved
loop-number-preserved c =
    one_passed c.args.reading.now c.loop-number.marks.items c.mark_next.new.marks.items c.loop-number.rest.now c.in-Some.before.now c.in-Some.number.now
    c.loop-number.invariant c.in-Some.ensures.cases.0 c.in_ok-mark_next.ensures

pub returns : goal.returns
returns c = all_passed c.args.reading.now c.loop-number.marks.items c.loop-number.rest.now c.in_default.ensures.cases c.loop-number.invariant
