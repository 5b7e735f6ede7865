use Rattle.std.proofs.Common.{[], subst, sym, take}
use Rattle.owl_characters.proofs.ResultLaws.{passed}
use Rattle.tree_stores.specs.Stores.{StandFor}
use Rattle.tree_stores.proofs.StoreLaws.{keeps_more}
use Rattle.man_resolve.specs.Building.{built}
use Rattle.man_resolve.specs.Making.{made}
use Rattle.man_resolve.proofs.MakingLaws.{step_fault, step_made, steps_made}
use Rattle.man_resolve.proofs.making.make_trees.Goals as goal

pub returns-in_err-make_step-clause-fault : goal.returns-in_err-make_step-clause-fault
returns-in_err-make_step-clause-fault g c =
    let fault = c.in_err-make_step.field-0.0 in
    let so_far = made (built (take c.loop-step.step-index c.args.steps.now)) [] in
    passed c.from_residual.result fault _ c.from_residual.ensures.1
    (step_fault c.args.steps.now c.loop-step.step-index c.step-item.result c.loop-step-test.true c.step-item.is fault (c.in_err-make_step.ensures.fault so_far c.loop-step.invariant.stand))

pub loop-step-preserved : goal.loop-step-preserved
loop-step-preserved g c =
    let stands = g.S.TreeStore.stands in
    let so_far = made (built (take c.loop-step.step-index c.args.steps.now)) [] in
    record {
      kept = keeps_more (stands c.args.store.now) (stands c.loop-step.store) (stands c.make_step.new.store) c.loop-step.invariant.kept c.in_ok-make_step.ensures.kept;
      stand = subst (λ ts. StandFor (stands c.make_step.new.store) ts c.make_step.new.numbers.items) (sym (step_made c.args.steps.now c.loop-step.step-index c.step-item.result c.loop-step-test.true c.step-item.is))
          (c.in_ok-make_step.ensures.made so_far c.loop-step.invariant.stand);
    }

pub returns-clause-made : goal.returns-clause-made
returns-clause-made g c =
    subst (λ ts. StandFor (g.S.TreeStore.stands c.loop-step.store) ts c.loop-step.numbers.items) (steps_made c.args.steps.now c.loop-step.step-index c.loop-step-test.false) c.loop-step.invariant.stand
