use Rattle.dl_rules.proofs.LinkForests.{link_forests}
use Rattle.dl_rules.proofs.laws.no_link_closes_a_ring_where_a_forest_exists.Goals as goal

pub returns : goal.returns
returns c = link_forests
