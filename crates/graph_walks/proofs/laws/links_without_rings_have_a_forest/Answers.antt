use Rattle.graph_walks.proofs.ForestLaws.{forest_of}
use Rattle.graph_walks.proofs.laws.links_without_rings_have_a_forest.Goals as goal

pub returns : goal.returns
returns c = forest_of
