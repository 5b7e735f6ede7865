use Rattle.std.proofs.Common.{ℕ, List, map}
use Rattle.std.specs.List.{flat_map}
use Rattle.dl_rules.specs.Properties.{composites, composites_of}
use Rattle.owl_arena.specs.Held.{trees_at}
use Rattle.property_hierarchy.specs.Numbers.{number_of}
use Rattle.property_hierarchy.proofs.Compositing.{composites_both}
use Rattle.owl_breaches.proofs.MakingLaws.{made_end, made_step}
use Rattle.property_hierarchy.proofs.composites.composites_by.Goals as goal

pub axioms-preserved : goal.axioms-preserved
axioms-preserved c =
    let ts = c.args.arena.now.trees in
    made_step (λ (ids : List ℕ). map (number_of ts) (composites (trees_at ts ids))) (λ (ids : List ℕ). map (number_of ts) (flat_map composites_of (trees_at ts ids))) (composites_both ts)
    c.args.axioms.now c.axioms.id-index _ _ _ c.axioms-test.true c.id-item.is c.axioms.invariant c.in_ok-push_composites.ensures

pub returns : goal.returns
returns c =
    let ts = c.args.arena.now.trees in
    made_end (λ (ids : List ℕ). map (number_of ts) (composites (trees_at ts ids))) (λ (ids : List ℕ). map (number_of ts) (flat_map composites_of (trees_at ts ids)))
    c.args.axioms.now c.axioms.id-index _ c.axioms-test.false c.axioms.invariant
