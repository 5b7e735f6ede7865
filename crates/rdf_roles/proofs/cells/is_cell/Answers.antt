use Rattle.rdf_graph.specs.declared.term.Term.TheVariants.{Blank}
use Rattle.rdf_roles.proofs.CellTriples.{cell_seen, no_cell}
use Rattle.rdf_roles.proofs.cells.is_cell.Goals as goal

pub returns-in-Some : goal.returns-in-Some
returns-in-Some c =
    cell_seen c.args.graph.now (Blank c.args.label.now) c.in_ok-triples.triples.now c.in_ok-triples.ensures c.in-Some.field-0-0.now c.in-Some.rest.now c.may_be_rest.result
    c.in-Some.ensures (c.may_be_rest.ensures c.args.graph.now c.requires)

pub returns-in-None : goal.returns-in-None
returns-in-None c = no_cell c.args.graph.now (Blank c.args.label.now) c.in_ok-triples.triples.now c.in_ok-triples.ensures c.in-None.ensures
