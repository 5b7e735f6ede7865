use Rattle.std.proofs.Common.{◌≤◌, ◌∙◌, length, subst, sym, arith, rules}
use Rattle.graph_walks.specs.Edges.{edges_of}
use Rattle.graph_walks.proofs.EdgeLaws.{graph_size}
use Rattle.chain_ranges.specs.Spreads.{AreSpread}
use Rattle.chain_ranges.proofs.SpreadLaws.{all_followed, none_followed, none_left, one_followed}
use Rattle.chain_ranges.proofs.blocks.follow.Goals as goal

pub loop-place-init : goal.loop-place-init
loop-place-init c = none_followed (edges_of c.args.edges.now) c.args.spread.now c.requires.noted c.requires.waiting

pub loop-place-preserved : goal.loop-place-preserved
loop-place-preserved c =
    one_followed (edges_of c.args.edges.now) c.args.spread.now.sets.items c.loop-place.spread c.begin.new.self c.add_all.new.self c.loop-place.place c.in-Some.node c.successors.result.now c.set_of-bits.result
    c.loop-place.invariant (search rules) c.begin.ensures c.successors.ensures c.set_of-bits.ensures c.in_ok-add_all-in-Some.ensures

pub returns-after-loop-place : goal.returns-after-loop-place
returns-after-loop-place c =
    λ pairs are.
    let first = c.args.spread.now.sets.items in
    let spread = c.loop-place.spread in
    let place = c.loop-place.place in
    let same = graph_size c.args.edges.now in
    let end : length spread.queue.items ≤ place = (
    let size = spread.queue.ok.0 in
    let fits = spread.queue.ok.1 in
    let small = spread.queue.small in
    let past = c.loop-place-test.false in
    omega arith
    ) in
    subst (λ n. AreSpread pairs n first spread.sets.items) same
    (all_followed (edges_of c.args.edges.now) first spread place c.loop-place.invariant end (c.requires.size ∙ sym same) pairs are)

pub returns-in-None : goal.returns-in-None
returns-in-None c =
    λ pairs are.
    let first = c.args.spread.now.sets.items in
    let spread = c.loop-place.spread in
    let place = c.loop-place.place in
    let same = graph_size c.args.edges.now in
    subst (λ n. AreSpread pairs n first spread.sets.items) same
    (all_followed (edges_of c.args.edges.now) first spread place c.loop-place.invariant (none_left spread.queue.items place (search rules)) (c.requires.size ∙ sym same) pairs are)
