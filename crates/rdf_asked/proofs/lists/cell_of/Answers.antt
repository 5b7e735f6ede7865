use Rattle.std.proofs.Common.{sym, ◌∙◌}
use Rattle.rdf_asked.proofs.ListedLaws.{cell_told, no_cell_told}
use Rattle.rdf_asked.proofs.lists.cell_of.Goals as goal

pub returns-in-List-clause-some : goal.returns-in-List-clause-some
returns-in-List-clause-some c =
    cell_told c.args.source.now.graph.now c.args.term.now c.about.result.now c.about.ensures (λ cell. (cell.0.now, cell.1.now)) c.cell.result c.cell.ensures
    (sym (c.role_of_term.ensures c.args.source.now.graph.now c.requires.source.table) ∙ c.in-List.is)

pub returns-in-List-clause-none : goal.returns-in-List-clause-none
returns-in-List-clause-none c =
    no_cell_told c.args.source.now.graph.now c.args.term.now c.about.result.now c.about.ensures (λ cell. (cell.0.now, cell.1.now)) c.cell.result c.cell.ensures c.requires.source.formed
