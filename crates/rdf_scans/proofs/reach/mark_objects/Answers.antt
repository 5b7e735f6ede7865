use Rattle.std.proofs.Common.{◌+◌, Bool, Global, Vec, sym, subst, take, ◌∙◌}
use Rattle.std.proofs.lemmas.Bool.{both_ways}
use Rattle.rdf_meaning.specs.Nodes.{is_own}
use Rattle.rdf_scans.specs.Reach.{AddsMarks, IsBySome, IsObjectOf}
use Rattle.rdf_scans.proofs.Marking.{by_no_more, by_one_more, marks_as}
use Rattle.rdf_scans.proofs.reach.mark_objects.Goals as goal
use Rattle.rdf_scans.proofs.reach.mark_objects.Goals.{then-is_own, else-is_own}

pub triples-preserved : goal.triples-preserved
triples-preserved c =
    let g = c.args.reading.now.graph.now in
    let r = c.args.role in
    let items = c.args.triples.now in
    let index = c.triples.triple-index in
    let t = c.triple-item.result in
    elim c.if-is_own.branch [
      | then-is_own w ↦
          subst (λ (v : Vec Bool Global). AddsMarks (IsBySome (IsObjectOf g r) (take (index + 1) items)) c.args.marks.now.items v.items) (sym w.marks-is)
          (by_one_more (IsObjectOf g r) items index t c.triples-test.true c.triple-item.is c.triples.invariant
          (marks_as (λ n. (λ node. (sym c.is_own.ensures ∙ w.if-is_own.true, node), λ s. s.1)) (w.mark.ensures)))
      | else-is_own w ↦
          subst (λ (v : Vec Bool Global). AddsMarks (IsBySome (IsObjectOf g r) (take (index + 1) items)) c.args.marks.now.items v.items) (sym w.marks-is)
          (by_no_more (IsObjectOf g r) items index t c.triples-test.true c.triple-item.is
          (λ n s. both_ways (is_own r t) (sym c.is_own.ensures ∙ w.if-is_own.false) s.0) c.triples.invariant)
    ]
