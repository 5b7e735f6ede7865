use Rattle.dl_rules.proofs.HierarchyOrders.{hierarchy_orders}
use Rattle.dl_rules.proofs.laws.chains_break_no_order_where_one_exists.Goals as goal

pub returns : goal.returns
returns c = hierarchy_orders
