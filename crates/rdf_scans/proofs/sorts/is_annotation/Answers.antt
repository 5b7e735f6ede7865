use Rattle.std.proofs.Common.{ap, sym, ◌∙◌}
use Rattle.std.specs.Prelude.{◌||◌}
use Rattle.rdf_scans.specs.Sorts.{is_node_note}
use Rattle.rdf_scans.proofs.Sorting.{annotation_is}
use Rattle.rdf_scans.proofs.sorts.is_annotation.Goals as goal

pub returns-then-is_header_note : goal.returns-then-is_header_note
returns-then-is_header_note c =
    let reading = c.args.reading.now in
    let t = c.args.triple.now in
    let noted = sym c.is_header_note.ensures ∙ c.if-is_header_note.true in
    c.if-is_header_note.true ∙ sym (ap (λ b. b || is_node_note reading.graph.now t) noted) ∙ annotation_is reading t

pub returns-else-is_header_note : goal.returns-else-is_header_note
returns-else-is_header_note c =
    let reading = c.args.reading.now in
    let t = c.args.triple.now in
    let not = sym c.is_header_note.ensures ∙ c.if-is_header_note.false in
    c.is_node_note.ensures reading.graph.now c.requires.table ∙ sym (ap (λ b. b || is_node_note reading.graph.now t) not) ∙ annotation_is reading t
