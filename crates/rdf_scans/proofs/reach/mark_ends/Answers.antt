use Rattle.std.proofs.Common.{◌+◌, Bool, Global, Vec, ap, sym, subst, take, ◌∙◌}
use Rattle.std.proofs.lemmas.Bool.{both_ways}
use Rattle.rdf_scans.specs.Reach.{AddsMarks, IsBySome, IsEndOf}
use Rattle.rdf_scans.specs.Sorts.{is_main, sort_in}
use Rattle.rdf_scans.proofs.Marking.{by_no_more, by_one_more, marks_both}
use Rattle.rdf_scans.proofs.reach.mark_ends.Goals as goal
use Rattle.rdf_scans.proofs.reach.mark_ends.Goals.{then-is_main, else-is_main}

pub triples-preserved : goal.triples-preserved
triples-preserved c =
    let reading = c.args.reading.now in
    let items = c.triples-triple-items.result.now in
    let index = c.triples.triple-index in
    let t = c.triple-item.result in
    let sorted = sym (c.is_main.ensures ∙ ap is_main c.sort_of.ensures) in
    elim c.if-is_main.branch [
      | then-is_main w ↦
          subst (λ (v : Vec Bool Global). AddsMarks (IsBySome (IsEndOf reading) (take (index + 1) items)) c.args.marks.now.items v.items) (sym w.marks-is)
          (by_one_more (IsEndOf reading) items index t c.triples-test.true c.triple-item.is c.triples.invariant
          (marks_both (λ n. (λ s. s.1, λ s. (sorted ∙ w.if-is_main.true, s))) (w.mark.ensures) (w.mark-then-is_main.ensures)))
      | else-is_main w ↦
          subst (λ (v : Vec Bool Global). AddsMarks (IsBySome (IsEndOf reading) (take (index + 1) items)) c.args.marks.now.items v.items) (sym w.marks-is)
          (by_no_more (IsEndOf reading) items index t c.triples-test.true c.triple-item.is
          (λ n s. both_ways (is_main (sort_in reading t)) (sorted ∙ w.if-is_main.false) s.0) c.triples.invariant)
    ]
