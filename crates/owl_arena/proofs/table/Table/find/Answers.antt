use Rattle.std.proofs.Common.{◌≡◌, ◌<◌, ◌-◌, ◌%◌, length, rules, tests, arith}
use Rattle.owl_arena.specs.Mixes.{form_mix}
use Rattle.owl_arena.specs.Nodes.{Differs, HasForm}
use Rattle.owl_arena.proofs.Tables.{IsNext, next_below, passed_more, passed_none, same_there}
use Rattle.owl_arena.proofs.table.Table.find.Goals as goal

pub loop-link-init : goal.loop-link-init
loop-link-init c =
    let bucket : c.bucket.result ≡ form_mix c.args.form.now % length c.args.self.now.heads.items = search rules in
    let below : c.bucket.result < length c.args.self.now.heads.items = omega arith in
    passed_none _ _ _ _ c.bucket.result _ c.args.self.now.linked bucket below c.index-link.ensures

pub returns-then-is-clause-here : goal.returns-then-is-clause-here
returns-then-is-clause-here c =
    let below : c.loop-link.link - 1 < length c.args.self.now.nodes.items = let inside = c.loop-link.invariant.in_range in omega arith in
    let same : HasForm c.args.form.now c.index.result.now = search (rules, tests) in
    λ d. same_there _ _ _ c.index.result.now d below c.index.ensures same

pub loop-link-smaller : goal.loop-link-smaller
loop-link-smaller c =
    let inside = c.loop-link.invariant.in_range in
    let next : IsNext c.args.self.now.nodes.items c.args.self.now.heads.items c.args.self.now.nexts.items c.loop-link.link c.index-link-in-loop-link.result.now = record { linked = c.args.self.now.linked; long = omega arith; some = omega arith; in_range = inside; is = c.index-link-in-loop-link.ensures } in
    next_below _ _ _ _ _ next

pub loop-link-preserved : goal.loop-link-preserved
loop-link-preserved c =
    let inside = c.loop-link.invariant.in_range in
    let next : IsNext c.args.self.now.nodes.items c.args.self.now.heads.items c.args.self.now.nexts.items c.loop-link.link c.index-link-in-loop-link.result.now = record { linked = c.args.self.now.linked; long = omega arith; some = omega arith; in_range = inside; is = c.index-link-in-loop-link.ensures } in
    let differs : Differs c.args.form.now c.index.result.now = search (rules, tests) in
    passed_more _ _ _ _ c.index.result.now _ _ next c.loop-link.invariant c.index.ensures differs
