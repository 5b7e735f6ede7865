use Rattle.rdf_meaning.specs.Nodes.{of_subject}
use Rattle.rdf_meaning.specs.Rows.{row_seen}
use Rattle.rdf_asked.proofs.Suited.{not_fit, row_fits, told_is}
use Rattle.rdf_asked.proofs.asked.is_told.Goals as goal

pub returns-then-fit : goal.returns-then-fit
returns-then-fit c =
    let g = c.args.source.now.graph.now in
    let x = c.args.triple.now.subject in
    let row = row_seen c.args.row.now in
    told_is g c.args.source.now.kinds.now c.args.triple.now row c.fit.result c.suits_properties.result c.if-fit.true
    (row_fits g x row c.role_of_term.result c.fit.result (c.role_of_term.ensures g c.requires.source.table) (c.fit.ensures (of_subject g x) c.requires.words)) c.suits_properties.ensures

pub returns-else-fit : goal.returns-else-fit
returns-else-fit c =
    let g = c.args.source.now.graph.now in
    let x = c.args.triple.now.subject in
    let row = row_seen c.args.row.now in
    not_fit g c.args.source.now.kinds.now c.args.triple.now row c.fit.result c.if-fit.false
    (row_fits g x row c.role_of_term.result c.fit.result (c.role_of_term.ensures g c.requires.source.table) (c.fit.ensures (of_subject g x) c.requires.words))
