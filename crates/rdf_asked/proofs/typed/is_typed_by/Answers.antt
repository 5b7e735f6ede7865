use Rattle.rdf_meaning.specs.Nodes.{role_of}
use Rattle.rdf_asked.proofs.Suited.{asked_by_role}
use Rattle.rdf_asked.proofs.typed.is_typed_by.Goals as goal

pub returns-in-Property : goal.returns-in-Property
returns-in-Property c =
    asked_by_role c.args.source.now.graph.now c.args.source.now.kinds.now c.args.triple.now (role_of c.args.source.now.graph.now c.args.triple.now.subject) c.role_of_term.result c.is_asked_for.result
    (c.role_of_term.ensures c.args.source.now.graph.now c.requires.source.table) c.in-Property.is c.is_asked_for.ensures
