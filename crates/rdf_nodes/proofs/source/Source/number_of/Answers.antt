use Rattle.rdf_nodes.proofs.Finding.{numbered}
use Rattle.rdf_nodes.proofs.source.Source.number_of.Goals as goal

pub returns-then-gives-clause-none : goal.returns-then-gives-clause-none
returns-then-gives-clause-none c = λ none.
    numbered c.args.self.now.graph.now c.args.self.now.roles.now c.requires c.args.term.now c.in-Blank.label c.in-Blank.is c.number.result c.number.ensures none c.args.sort
