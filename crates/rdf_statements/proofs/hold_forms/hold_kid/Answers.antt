use Rattle.std.specs.List.{AllByRecursion}
use Rattle.std.proofs.Common.{subst, sym}
use Rattle.owl_tree.specs.Trees.{kids_of, node}
use Rattle.rdf_nodes.specs.Numbers.{HasItsNumber}
use Rattle.rdf_nodes.specs.Operands.{AllMean}
use Rattle.rdf_statements.specs.Forms.{KidMeans}
use Rattle.rdf_statements.proofs.Faults.{fault_of_one}
use Rattle.rdf_statements.proofs.HoldingKids.{err_more, group_means, group_numbered, one_numbered}
use Rattle.rdf_statements.proofs.hold_forms.hold_kid.Goals as goal

pub hold_operand-requires-clause-known : goal.hold_operand-requires-clause-known
hold_operand-requires-clause-known g c =
    one_numbered c.args.source.now.graph.now c.args.source.now.kinds.now c.args.source.now.roles.now c.args.ids.now c.args.kid.now c.in-One.operand c.requires.known c.requires.tree
    c.in-One.is

pub hold_operands-requires-clause-known : goal.hold_operands-requires-clause-known
hold_operands-requires-clause-known g c =
    subst (AllByRecursion (HasItsNumber c.args.ids.now)) (sym c.deref.ensures.value)
    (group_numbered c.args.source.now.graph.now c.args.source.now.kinds.now c.args.source.now.roles.now c.args.ids.now c.args.kid.now c.in-Group.tag c.in-Group.operands c.requires.known
    c.requires.tree c.in-Group.is)

pub returns-in_ok-members-in-Group-clause-fault : goal.returns-in_ok-members-in-Group-clause-fault
returns-in_ok-members-in-Group-clause-fault g c =
    let graph = c.args.source.now.graph.now in
    let kinds = c.args.source.now.kinds.now in
    let roles = c.args.source.now.roles.now in
    let s = c.in_ok-members-in-Group.ensures.held in
    let mean = subst (λ os. AllMean graph kinds roles os s.meant) c.deref.ensures.value s.mean in
    err_more
    (λ f h. fault_of_one (KidMeans graph kinds roles c.args.kid.now) (node c.in-Group.tag (kids_of s.meant))
    (group_means graph kinds roles c.args.kid.now c.in-Group.tag c.in-Group.operands s.meant c.in-Group.is mean) f h)
    c.hold_node.result (c.hold_node.ensures.fault s.meant s.held)
