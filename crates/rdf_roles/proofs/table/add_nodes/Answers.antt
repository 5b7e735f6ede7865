use Rattle.std.proofs.Common.{sym}
use Rattle.owl_characters.proofs.ResultLaws.{passed}
use Rattle.rdf_roles.proofs.Walk.{ahead, walk_adds, walk_ends, walk_is_new, walk_passes, walk_stops, walked_all}
use Rattle.rdf_roles.proofs.table.add_nodes.Goals as goal

pub add_node-requires : goal.add_node-requires
add_node-requires c = walk_is_new (ahead c.loop-triple.invariant c.in-Some.ensures.cases.0) (sym c.if-not-begins_with.ensures)

pub returns-in_err-add_node-clause-fault : goal.returns-in_err-add_node-clause-fault
returns-in_err-add_node-clause-fault c =
    passed c.from_residual.result c.in_err-add_node.field-0.0 _ c.from_residual.ensures.1
    (walk_stops (ahead c.loop-triple.invariant c.in-Some.ensures.cases.0) (sym c.if-not-begins_with.ensures) c.in_err-add_node.field-0.0 c.in_err-add_node.ensures.fault)

pub loop-triple-preserved-in_ok-add_node : goal.loop-triple-preserved-in_ok-add_node
loop-triple-preserved-in_ok-add_node c =
    walk_adds (ahead c.loop-triple.invariant c.in-Some.ensures.cases.0) (sym c.if-not-begins_with.ensures) c.in_ok-add_node.ensures.added c.in_ok-add_node.ensures.one_role

pub loop-triple-preserved : goal.loop-triple-preserved
loop-triple-preserved c = walk_passes (ahead c.loop-triple.invariant c.in-Some.ensures.cases.0) (sym c.if-not-begins_with.ensures)

pub returns-clause-ok : goal.returns-clause-ok
returns-clause-ok c = (walk_ends (walked_all c.loop-triple.invariant c.in_default.ensures.cases)).0

pub returns-clause-one_role : goal.returns-clause-one_role
returns-clause-one_role c = (walk_ends (walked_all c.loop-triple.invariant c.in_default.ensures.cases)).1
