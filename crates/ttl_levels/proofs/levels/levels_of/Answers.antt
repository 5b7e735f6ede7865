use Rattle.std.proofs.Common.{◌<◌, sym, subst}
use Rattle.ttl_levels.specs.NestTables.{AreKnownAbove, IsLevelAt}
use Rattle.ttl_levels.proofs.OrderedLaws.{all_in_order, all_levels}
use Rattle.ttl_levels.proofs.WalkLaws.{backward_above, backward_next, backward_within}
use Rattle.ttl_levels.proofs.levels.levels_of.Goals as goal

pub level_at-level-requires-clause-above : goal.level_at-level-requires-clause-above
level_at-level-requires-clause-above c =
    let g = c.args.graph.now in
    subst (λ levels. AreKnownAbove g levels c.in-Some.number.now) (sym c.deref.ensures.value)
    (backward_above (IsLevelAt g) g c.args.roles.now.order c.requires.table.order c.loop-number.levels.items c.loop-number.rest.now c.in-Some.front.now c.in-Some.number.now c.loop-number.invariant c.in-Some.ensures.cases.0
    (all_in_order g c.args.roles.now c.requires.table))

pub index_mut-requires : goal.index_mut-requires
index_mut-requires c =
    let g = c.args.graph.now in
    subst (λ n. c.in-Some.number.now < n) (sym c.loop-number.levels.ok.0)
    (backward_within (IsLevelAt g) g c.args.roles.now.order c.requires.table.order c.loop-number.levels.items c.loop-number.rest.now c.in-Some.front.now c.in-Some.number.now c.loop-number.invariant c.in-Some.ensures.cases.0)

pub loop-number-preserved : goal.loop-number-preserved
loop-number-preserved c =
    let g = c.args.graph.now in
    backward_next (IsLevelAt g) g c.args.roles.now.order c.requires.table.order c.loop-number.levels.items c.loop-number.rest.now c.in-Some.front.now c.in-Some.number.now c.loop-number.invariant c.in-Some.ensures.cases.0
    c.level_at-level.result c.level_at-level.ensures

pub returns : goal.returns
returns c = all_levels c.args.graph.now c.args.roles.now c.loop-number.levels.items _ c.requires.table c.in_default.ensures.cases c.loop-number.invariant
