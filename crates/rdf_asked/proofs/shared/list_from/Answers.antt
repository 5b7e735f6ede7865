use Rattle.rdf_asked.proofs.KnownLists.{cell_listed}
use Rattle.rdf_asked.proofs.shared.list_from.Goals as goal

pub returns : goal.returns
returns c =
    let g = c.args.source.now.graph.now in
    let cell = c.in_ok-first.ensures.some in
    cell_listed g c.args.source.now.kinds.now c.args.term.now c.in_ok-first.first.now c.in_ok-first.rest.now cell.0 cell.1 cell.2 c.in_ok-behind.behind c.with_first.result
    (λ e. c.with_first.ensures g e c.requires.source.table) c.in_ok-behind.ensures
