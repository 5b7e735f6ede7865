use Rattle.std.proofs.Common.{arith, ◌≡◌, length, subst, sym}
use Rattle.rdf_nodes.specs.Nodes.{HoldNumbersUpTo}
use Rattle.rdf_nodes.proofs.Labelling.{all_numbers_held, nothing_held}
use Rattle.rdf_nodes.proofs.source.Source.by_label.Goals as goal

pub loop-number-init : goal.loop-number-init
loop-number-init c = λ trees are.
    let g = c.args.self.now.graph.now in
    let k = c.args.self.now.kinds.now in
    let roles = c.args.self.now.roles.now in
    subst (HoldNumbersUpTo g k roles trees 0) (sym c.new-table.ensures.empty) (nothing_held g k roles trees)

pub returns : goal.returns
returns c = λ trees are.
    let all : c.loop-number.number ≡ length c.args.self.now.roles.now.nodes = omega (arith, c.loop-number-test.false, c.loop-number.auto.number-end, c.len-number-end.ensures) in
    all_numbers_held c.args.self.now.graph.now c.args.self.now.kinds.now c.args.self.now.roles.now trees c.requires.table c.loop-number.table.entries c.loop-number.number all
    (c.loop-number.invariant trees are)
