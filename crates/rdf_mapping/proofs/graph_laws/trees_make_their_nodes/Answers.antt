use Rattle.rdf_mapping.proofs.TreeSortLaws.{tree_sort}
use Rattle.rdf_mapping.proofs.graph_laws.trees_make_their_nodes.Goals as goal

pub returns : goal.returns
returns c = tree_sort
