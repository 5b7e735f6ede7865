use Rattle.dl_rules.proofs.DatatypeOrders.{datatype_orders}
use Rattle.dl_rules.proofs.laws.no_definition_is_cyclic_where_an_order_exists.Goals as goal

pub returns : goal.returns
returns c = datatype_orders
