use Rattle.std.proofs.Common.{ℕ, List, ap, sym, length, map, ◌∙◌, ◌++◌}
use Rattle.std.specs.List.{flat_map}
use Rattle.owl_arena.specs.Held.{tree_at, trees_at}
use Rattle.property_hierarchy.specs.declared.numbers.PropertyNumber.{PropertyNumber}
use Rattle.property_hierarchy.specs.Numbers.{below_at, numbered_pairs}
use Rattle.property_hierarchy.proofs.Chaining.{below_at_both, below_pushed, count_pushed, counts_both}
use Rattle.owl_breaches.proofs.MakingLaws.{made_end, made_step}
use Rattle.property_hierarchy.proofs.chains.below_by.Goals as goal

pub axioms-preserved : goal.axioms-preserved
axioms-preserved c =
    let ts = c.args.arena.now.trees in
    let made = λ (ids : List ℕ). numbered_pairs ts (flat_map below_at (trees_at ts ids)) in
    let counted = λ (ids : List ℕ). map (λ t. length (below_at t)) (trees_at ts ids) in
    record {
      made = made_step made made (below_at_both ts) c.args.axioms.now c.axioms.id-index c.id-item.result _ _ c.axioms-test.true c.id-item.is c.axioms.invariant.made
          (below_pushed ts (tree_at ts c.id-item.result) c.axioms.pairs.items c.in_ok-more.more.items _ c.in_ok-more.ensures
          (c.in_ok-extend_from_slice.ensures.items ∙ ap (λ (pairs : List (PropertyNumber × PropertyNumber)). c.axioms.pairs.items ++ pairs) c.deref.ensures.value));
      counted = made_step counted counted (counts_both ts) c.args.axioms.now c.axioms.id-index c.id-item.result _ _ c.axioms-test.true c.id-item.is c.axioms.invariant.counted
          (count_pushed ts (tree_at ts c.id-item.result) c.in_ok-more.more.items c.len.result c.axioms.counts.items _ c.in_ok-more.ensures (c.len.ensures ∙ (sym c.deref.ensures.len ∙ ap (length {A = PropertyNumber × PropertyNumber}) c.deref.ensures.value)) c.in_ok-push.ensures.items);
    }

pub returns : goal.returns
returns c =
    let ts = c.args.arena.now.trees in
    let made = λ (ids : List ℕ). numbered_pairs ts (flat_map below_at (trees_at ts ids)) in
    let counted = λ (ids : List ℕ). map (λ t. length (below_at t)) (trees_at ts ids) in
    record {
      pairs = made_end made made c.args.axioms.now c.axioms.id-index _ c.axioms-test.false c.axioms.invariant.made;
      counts = made_end counted counted c.args.axioms.now c.axioms.id-index _ c.axioms-test.false c.axioms.invariant.counted;
    }
