use Rattle.std.proofs.Common.{rules, ◌≡◌, ◌+◌, ◌-◌, ◌<◌, ◌≤◌, ◌/◌, get_or, subst, arith}
use Rattle.blank_labels.proofs.TakenNumbers.{IsBetween, ends, goes_up}
use Rattle.blank_labels.proofs.far.passing.Goals as goal

pub loop-low-preserved-then-saturating_sub-number :
    goal.loop-low-preserved-then-saturating_sub-number
loop-low-preserved-then-saturating_sub-number c =
    let low = c.loop-low.low in
    let high = c.loop-low.high in
    let half = (high - low) / 2 in
    let below : low + half < high = omega (arith, c.loop-low-test.true) in
    let reached : get_or c.args.taken.now (low + half) 0 ≤ c.args.number + (low + half) = omega (arith, c.saturating_sub.ensures, c.if-saturating_sub-number.true) in
    let up = goes_up c.args.taken.now c.args.number low high (low + half) c.requires c.loop-low.invariant below reached in
    search (rules, up)

pub returns : goal.returns
returns c =
    let order = c.loop-low.invariant.order in
    let same : c.loop-low.high ≡ c.loop-low.low = omega (arith, order, c.loop-low-test.false) in
    let all = ends c.args.taken.now c.args.number c.loop-low.low (subst (λ high. IsBetween c.args.taken.now c.args.number c.loop-low.low high) same c.loop-low.invariant) in
    search (rules, all)
