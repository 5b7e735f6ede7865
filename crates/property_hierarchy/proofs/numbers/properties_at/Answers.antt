use Rattle.std.proofs.Common.{ℕ, List}
use Rattle.owl_arena.specs.Held.{trees_at}
use Rattle.property_hierarchy.specs.Numbers.{numbers_in}
use Rattle.owl_breaches.proofs.MakingLaws.{made_end, made_step}
use Rattle.property_hierarchy.proofs.Stepping.{numbers_at_both}
use Rattle.property_hierarchy.proofs.numbers.properties_at.Goals as goal

pub ids-preserved : goal.ids-preserved
ids-preserved c =
    let made = λ (ids : List ℕ). numbers_in c.args.arena.now.trees (trees_at c.args.arena.now.trees ids) in
    made_step made made (numbers_at_both c.args.arena.now.trees) c.args.ids.now c.ids.id-index _ _ _ c.ids-test.true c.id-item.is c.ids.invariant c.in_ok-push_property.ensures

pub returns : goal.returns
returns c =
    made_end (λ (ids : List ℕ). numbers_in c.args.arena.now.trees (trees_at c.args.arena.now.trees ids)) (λ (ids : List ℕ). numbers_in c.args.arena.now.trees (trees_at c.args.arena.now.trees ids))
    c.args.ids.now c.ids.id-index _ c.ids-test.false c.ids.invariant
