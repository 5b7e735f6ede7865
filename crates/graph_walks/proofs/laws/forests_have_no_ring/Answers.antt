use Rattle.graph_walks.proofs.ForestLaws.{forest_has_no_ring}
use Rattle.graph_walks.proofs.laws.forests_have_no_ring.Goals as goal

pub returns : goal.returns
returns c = λ links parents forest. forest_has_no_ring links parents forest
