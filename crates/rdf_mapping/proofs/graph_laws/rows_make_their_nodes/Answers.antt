use Rattle.rdf_mapping.proofs.RowSortLaws.{row_sort}
use Rattle.rdf_mapping.proofs.graph_laws.rows_make_their_nodes.Goals as goal

pub returns : goal.returns
returns c = λ name most differ g k apart. row_sort name most differ g k apart
