use Rattle.rdf_mapping.specs.RowForLaws.{has_row_for}
use Rattle.rdf_mapping.proofs.laws.expressions_have_rows.Goals as goal

pub returns : goal.returns
returns c = has_row_for
