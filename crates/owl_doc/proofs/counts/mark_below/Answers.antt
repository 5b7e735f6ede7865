use Rattle.std.proofs.Common.{arith}
use Rattle.owl_doc.proofs.Marking.{added_twice, closed_further}
use Rattle.owl_doc.proofs.counts.mark_below.Goals as goal

pub places-preserved : goal.places-preserved
places-preserved c =
    let ts = c.args.arena.now.trees in
    let step = c.mark_kids.ensures in
    let added = step.added in
    record {
      within = omega arith;
      added = added_twice ts c.args.marks.now c.places.marks c.mark_kids.new.marks c.places.invariant.added added;
      closed = λ place le within mark.
          closed_further c.places.place c.at.result ts c.places.marks c.mark_kids.new.marks (omega arith) c.places.invariant.closed added step.above step.kids place (omega arith) within mark;
    }
