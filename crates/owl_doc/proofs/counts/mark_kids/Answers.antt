use Rattle.owl_doc.proofs.Marking.{kids_added, kids_marked}
use Rattle.owl_doc.proofs.counts.mark_kids.Goals as goal

pub returns-then-marks-place-clause-added : goal.returns-then-marks-place-clause-added
returns-then-marks-place-clause-added c =
    kids_added c.args.arena.now.trees c.args.marks.now c.mark.new.marks c.args.id c.kids.result.now (record {
      within = c.requires.id;
      long = c.mark.ensures.long;
      marks = c.mark.ensures.marked;
      trees = c.kids.ensures.kids;
      below = c.kids.ensures.below;
    }) (let e = c.place.ensures in let t = c.if-marks-place.true in cc)

pub returns-then-marks-place-clause-kids : goal.returns-then-marks-place-clause-kids
returns-then-marks-place-clause-kids c = λ mark.
    kids_marked c.args.arena.now.trees c.args.marks.now c.mark.new.marks c.args.id c.kids.result.now (record {
      within = c.requires.id;
      long = c.mark.ensures.long;
      marks = c.mark.ensures.marked;
      trees = c.kids.ensures.kids;
      below = c.kids.ensures.below;
    })
