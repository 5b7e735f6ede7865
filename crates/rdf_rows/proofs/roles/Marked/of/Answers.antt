use Rattle.std.proofs.Common.{refl, sym, ap, ◌∙◌, take}
use Rattle.rdf_rows.specs.Roles.{roles_in, with_mark}
use Rattle.rdf_rows.proofs.Marking.{made_of, no_mark, one_mark}
use Rattle.rdf_rows.proofs.Taken.{next_taken}
use Rattle.rdf_rows.proofs.roles.Marked.of.Goals as goal
use Rattle.rdf_rows.proofs.roles.Marked.of.Goals.{in-Some, in_default}

pub loop-triple-init : goal.loop-triple-init
unfolding roles_in
loop-triple-init c = refl

pub loop-triple-preserved : goal.loop-triple-preserved
loop-triple-preserved c =
    let before = take c.loop-triple.triple-index c.args.triples.now in
    let taken = ap (λ ts. made_of (roles_in ts)) (sym (next_taken c.args.triples.now c.loop-triple.triple-index c.triple-item.result c.loop-triple-test.true c.triple-item.is)) in
    elim c.match-marked_role.branch [
      | in-Some w ↦
          w.marked-is ∙ w.with-marked.ensures ∙ ap (λ m. with_mark m w.in-Some.role) c.loop-triple.invariant
          ∙ sym (one_mark before c.triple-item.result w.in-Some.role w.in-Some.ensures) ∙ taken
      | in_default w ↦ w.marked-is ∙ c.loop-triple.invariant ∙ sym (no_mark before c.triple-item.result w.in_default.ensures) ∙ taken
    ]
