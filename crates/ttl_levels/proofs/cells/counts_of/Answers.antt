use Rattle.std.proofs.Common.{◌<◌, sym, subst}
use Rattle.ttl_levels.specs.NestTables.{AreKnownBelow, IsCellCountAt}
use Rattle.ttl_levels.proofs.OrderedLaws.{all_counts}
use Rattle.ttl_levels.proofs.WalkLaws.{forward_below, forward_next, forward_within}
use Rattle.ttl_levels.proofs.cells.counts_of.Goals as goal

pub count_at-requires-clause-below : goal.count_at-requires-clause-below
count_at-requires-clause-below c =
    let g = c.args.graph.now in
    subst (λ cells. AreKnownBelow g cells c.in-Some.number.now) (sym c.deref.ensures.value)
    (forward_below (IsCellCountAt g) g c.args.roles.now.order c.requires.table.order c.loop-number.cells.items c.loop-number.rest.now c.in-Some.number.now c.in-Some.behind.now c.loop-number.invariant c.in-Some.ensures.cases.0)

pub index_mut-requires : goal.index_mut-requires
index_mut-requires c =
    let g = c.args.graph.now in
    subst (λ n. c.in-Some.number.now < n) (sym c.loop-number.cells.ok.0)
    (forward_within (IsCellCountAt g) g c.args.roles.now.order c.requires.table.order c.loop-number.cells.items c.loop-number.rest.now c.in-Some.number.now c.in-Some.behind.now c.loop-number.invariant c.in-Some.ensures.cases.0)

pub loop-number-preserved : goal.loop-number-preserved
loop-number-preserved c =
    let g = c.args.graph.now in
    forward_next (IsCellCountAt g) g c.args.roles.now.order c.requires.table.order c.loop-number.cells.items c.loop-number.rest.now c.in-Some.number.now c.in-Some.behind.now c.loop-number.invariant c.in-Some.ensures.cases.0
    c.in_ok-count.count c.in_ok-count.ensures

pub returns : goal.returns
returns c = all_counts c.args.graph.now c.args.roles.now c.loop-number.cells.items _ c.requires.table c.in_default.ensures.cases c.loop-number.invariant
