use Rattle.std.proofs.Common.{refl}
use Rattle.rdf_terms.specs.Datatypes.{allows_facet, bare_row, binary_row, datatype_map, ordered_row, plain_row, text_facets, text_row}
use Rattle.rdf_terms.proofs.DatatypeRows.{facet_in_rows}
use Rattle.rdf_terms.proofs.datatypes.facet_ok.Goals as goal

pub returns : goal.returns
unfolding allows_facet datatype_map ordered_row text_row text_facets plain_row binary_row bare_row
returns c = facet_in_rows c.is_facet_in_rows.result _ c.text.result.now c.args.datatype.now c.text-2.result.now c.args.facet.now c.is_facet_in_rows.ensures c.text.ensures.bytes c.text-2.ensures.bytes refl
