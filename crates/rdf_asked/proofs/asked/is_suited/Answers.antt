use Rattle.std.proofs.Common.{sym, ◌∙◌}
use Rattle.rdf_meaning.specs.Nodes.{of_subject}
use Rattle.rdf_meaning.specs.Rows.{row_seen}
use Rattle.rdf_asked.proofs.Suited.{not_fit_alone, row_fits, suited_alone}
use Rattle.rdf_asked.proofs.asked.is_suited.Goals as goal

pub returns-then-fit : goal.returns-then-fit
returns-then-fit c =
    let g = c.args.source.now.graph.now in
    let x = c.args.triple.now.subject in
    let row = row_seen c.args.row.now in
    suited_alone g c.args.source.now.kinds.now c.args.triple.now row c.fit.result c.suits-then-fit.result c.if-fit.true
    (row_fits g x row c.role_of_term.result c.fit.result (c.role_of_term.ensures g c.requires.source.table) (c.fit.ensures (of_subject g x) c.requires.words))
    c.suits-then-fit.ensures (sym c.is_by_property.ensures ∙ c.if-is_by_property.false)

pub returns-else-fit : goal.returns-else-fit
returns-else-fit c =
    let g = c.args.source.now.graph.now in
    let x = c.args.triple.now.subject in
    let row = row_seen c.args.row.now in
    not_fit_alone g c.args.source.now.kinds.now c.args.triple.now row c.fit.result c.if-fit.false
    (row_fits g x row c.role_of_term.result c.fit.result (c.role_of_term.ensures g c.requires.source.table) (c.fit.ensures (of_subject g x) c.requires.words))
