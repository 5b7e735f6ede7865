use Rattle.std.proofs.Common.{ℕ, List}
use Rattle.dl_rules.specs.Properties.{leads}
use Rattle.owl_arena.specs.Held.{trees_at}
use Rattle.property_hierarchy.specs.Numbers.{numbered_pairs}
use Rattle.owl_breaches.proofs.MakingLaws.{made_end, made_step}
use Rattle.property_hierarchy.proofs.Stepping.{leads_both}
use Rattle.property_hierarchy.proofs.steps.steps_by.Goals as goal

pub axioms-preserved : goal.axioms-preserved
axioms-preserved c =
    let made = λ (ids : List ℕ). numbered_pairs c.args.arena.now.trees (leads (trees_at c.args.arena.now.trees ids)) in
    made_step made made (leads_both c.args.arena.now.trees) c.args.axioms.now c.axioms.id-index _ _ _ c.axioms-test.true c.id-item.is c.axioms.invariant c.in_ok-push_steps.ensures

pub returns : goal.returns
returns c =
    made_end (λ (ids : List ℕ). numbered_pairs c.args.arena.now.trees (leads (trees_at c.args.arena.now.trees ids))) (λ (ids : List ℕ). numbered_pairs c.args.arena.now.trees (leads (trees_at c.args.arena.now.trees ids)))
    c.args.axioms.now c.axioms.id-index _ c.axioms-test.false c.axioms.invariant
