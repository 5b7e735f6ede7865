use Rattle.std.proofs.Common.{length}
use Rattle.graph_walks.specs.Edges.{edges_of}
use Rattle.chain_ranges.proofs.SpreadLaws.{none_seeded, one_seeded}
use Rattle.chain_ranges.proofs.blocks.seed.Goals as goal

pub classes-init : goal.classes-init
classes-init c = none_seeded (edges_of c.args.holders.now) c.args.block.now (length c.args.spread.now.sets.items) c.args.spread.now c.requires.empty

pub classes-preserved : goal.classes-preserved
classes-preserved c =
    one_seeded (edges_of c.args.holders.now) c.args.block.now (length c.args.spread.now.sets.items) c.classes.number c.bit.result c.successors.result.now c.classes.spread c.add_all.new.self
    c.classes.invariant c.successors.ensures c.bit.ensures c.in_ok-add_all.ensures
