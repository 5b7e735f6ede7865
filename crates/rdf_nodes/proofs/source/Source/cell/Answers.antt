use Rattle.std.proofs.Common.{rules, ◌≡◌, ap, sym, ◌∙◌}
use Rattle.rdf_meaning.specs.declared.role.Role.TheVariants as role
use Rattle.rdf_meaning.specs.Nodes.{role_of}
use Rattle.rdf_rows.specs.Chosen.{the_cell}
use Rattle.rdf_asked.proofs.ListedLaws.{no_cell_told}
use Rattle.rdf_nodes.proofs.Steps.{cell_with, no_cell_with}
use Rattle.rdf_nodes.proofs.source.Source.cell.Goals as goal

pub returns-then-eq-clause-cell : goal.returns-then-eq-clause-cell
returns-then-eq-clause-cell c =
    let g = c.args.self.now.graph.now in
    let same : c.role.result ≡ role.List = search rules in
    cell_with (λ b. b.now) g c.args.term.now c.cell.result (c.cell.ensures ∙ ap the_cell c.about.ensures)
    (ap (role_of g) c.in-Blank.is ∙ sym (c.role.ensures g c.requires) ∙ same)

pub returns-then-eq-clause-none : goal.returns-then-eq-clause-none
returns-then-eq-clause-none c = λ formed.
    no_cell_told c.args.self.now.graph.now c.args.term.now c.about.result.now c.about.ensures (λ cell. (cell.0.now, cell.1.now)) c.cell.result c.cell.ensures formed

pub returns-then-eq-clause-no_cell : goal.returns-then-eq-clause-no_cell
returns-then-eq-clause-no_cell c = λ none first rest is.
    no_cell_with (λ b. b.now) c.args.self.now.graph.now c.args.term.now c.cell.result (c.cell.ensures ∙ ap the_cell c.about.ensures) none first rest is
