use Rattle.std.proofs.Common.{get_or, length}
use Rattle.chain_ranges.proofs.SpreadLaws.{empty_more}
use Rattle.chain_ranges.proofs.blocks.queue_all.Goals as goal

pub nodes-preserved : goal.nodes-preserved
nodes-preserved c =
    empty_more (length c.args.spread.now.sets.items) (get_or c.args.nodes.now c.nodes.node-index 0) c.nodes.spread c.wait_for.new.self c.nodes.invariant c.in_ok-wait_for.ensures
