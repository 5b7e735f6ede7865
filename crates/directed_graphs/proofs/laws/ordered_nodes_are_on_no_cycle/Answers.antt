use Rattle.directed_graphs.proofs.CycleLaws.{order_is_clear}
use Rattle.directed_graphs.proofs.laws.ordered_nodes_are_on_no_cycle.Goals as goal

pub returns : goal.returns
returns c = order_is_clear
