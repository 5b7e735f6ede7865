use Rattle.std.proofs.Common.{arith, ap, ◌∙◌}
use Rattle.profile_sorts.specs.Sorts.{form_of, leaf_fits}
use Rattle.profile_sorts.proofs.SetLaws.{done_later, few_sorts, left_later}
use Rattle.profile_sorts.proofs.pass.leaf_sorts.Goals as goal

pub sorts-preserved : goal.sorts-preserved
sorts-preserved c = record {
  done = λ t is.
      let told = c.takes-fits.ensures ∙ ap (λ form. leaf_fits form c.args.atom.now) (c.form_at.ensures t is) in
      done_later c.sorts.set c.with_if-set.result c.sorts.number c.numbered-sort.result c.numbered-sort.ensures c.with_if-set.ensures.others c.sorts.invariant.left
      (λ s. leaf_fits (form_of s t) c.args.atom.now) _ c.with_if-set.ensures.same told (c.sorts.invariant.done t is);
  left = left_later c.sorts.set c.with_if-set.result c.sorts.number c.numbered-sort.result c.numbered-sort.ensures c.with_if-set.ensures.others c.sorts.invariant.left;
}

pub returns : goal.returns
returns c = λ t is s. c.sorts.invariant.done t is s (omega (arith, few_sorts s, c.sorts-test.false, c.sorts.auto.number-end))
