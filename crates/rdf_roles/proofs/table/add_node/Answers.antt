use Rattle.rdf_roles.proofs.Walk.{added, mixed_node, one_role_node}
use Rattle.rdf_roles.proofs.table.add_node.Goals as goal

pub returns-then-marked-clause-fault : goal.returns-then-marked-clause-fault
returns-then-marked-clause-fault c =
    mixed_node c.args.graph.now c.args.term.now c.in-Blank.label c.in_ok-copy.field-0 c.about.result.now c.of-marked.result.mixed c.in-Blank.is
    c.in_ok-copy.ensures c.about.ensures c.of-marked.ensures.mixed c.if-marked.true

pub returns-clause-added : goal.returns-clause-added
returns-clause-added c =
    added c.args.graph.now c.args.term.now c.in-Blank.label c.in_ok-node.node c.about.result.now c.of-marked.result.role c.args.table.now.entries c.insert.new.self.entries
    c.in-Blank.is c.in_ok-node.ensures c.about.ensures c.of-marked.ensures.role c.requires c.in_ok-insert.ensures.entries

pub returns-clause-one_role : goal.returns-clause-one_role
returns-clause-one_role c =
    one_role_node c.args.graph.now c.args.term.now c.in-Blank.label c.about.result.now c.of-marked.result.mixed c.in-Blank.is
    c.about.ensures c.of-marked.ensures.mixed c.if-marked.false
