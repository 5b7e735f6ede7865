use Rattle.std.proofs.Common.{refl}
use Rattle.rdf_terms.specs.Datatypes.{bare_row, binary_row, datatype_map, is_in_map, ordered_row, plain_row, text_facets, text_row}
use Rattle.rdf_terms.proofs.DatatypeRows.{in_rows}
use Rattle.rdf_terms.proofs.datatypes.in_map.Goals as goal

pub returns : goal.returns
unfolding is_in_map datatype_map ordered_row text_row text_facets plain_row binary_row bare_row
returns c = in_rows c.is_in_rows.result _ c.text.result.now c.args.datatype.now c.is_in_rows.ensures c.text.ensures.bytes refl
