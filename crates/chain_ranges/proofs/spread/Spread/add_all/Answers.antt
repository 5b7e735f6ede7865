use Rattle.std.proofs.Common.{◌∷◌, [], get_or, take, sym, subst}
use Rattle.std.proofs.lemmas.List.{take_more}
use Rattle.chain_ranges.specs.Spreads.{AddsBits}
use Rattle.chain_ranges.proofs.SpreadLaws.{adds_both, adds_none}
use Rattle.chain_ranges.proofs.spread.Spread.add_all.Goals as goal

pub nodes-init : goal.nodes-init
nodes-init c = adds_none c.args.bits c.args.self.now

pub nodes-preserved : goal.nodes-preserved
nodes-preserved c =
    let front = take c.nodes.node-index c.args.nodes.now in
    let next = get_or c.args.nodes.now c.nodes.node-index 0 in
    subst (λ xs. AddsBits xs c.args.bits c.args.self.now c.add.new.self) (sym (take_more c.args.nodes.now c.nodes.node-index 0 c.nodes-test.true))
    (adds_both front (next ∷ []) c.args.bits c.args.self.now c.nodes.self c.add.new.self c.nodes.invariant c.in_ok-add.ensures)
