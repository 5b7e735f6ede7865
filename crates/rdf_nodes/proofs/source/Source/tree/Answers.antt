use Rattle.std.specs.List.{AllByRecursion}
use Rattle.std.proofs.Common.{subst, sym}
use Rattle.tree_stores.proofs.StoreLaws.{are_standing}
use Rattle.rdf_nodes.specs.Numbers.{HasItsNumber}
use Rattle.rdf_nodes.specs.Operands.{AllMean}
use Rattle.rdf_nodes.proofs.Holding.{tree_denoted, tree_refused}
use Rattle.rdf_nodes.proofs.source.Source.tree.Goals as goal

pub hold_operands-requires-clause-known : goal.hold_operands-requires-clause-known
hold_operands-requires-clause-known g c = subst (AllByRecursion (HasItsNumber c.args.ids.now)) (sym c.deref.ensures.value) c.requires.known

pub hold_node-requires : goal.hold_node-requires
hold_node-requires g c =
    are_standing (g.S.TreeStore.stands c.hold_operands.new.store) c.in_ok-kids.ensures.held.meant c.in_ok-kids.kids.items c.in_ok-kids.ensures.held.held

pub returns-clause-held : goal.returns-clause-held
returns-clause-held g c = λ x is.
    let stand = c.in_ok-kids.ensures.held in
    let mean = subst (λ os. AllMean c.args.self.now.graph.now c.args.self.now.kinds.now c.args.self.now.roles.now os stand.meant) c.deref.ensures.value stand.mean in
    tree_denoted c.args.self.now.graph.now c.args.self.now.kinds.now c.args.self.now.roles.now x c.args.form.now stand.meant (g.S.TreeStore.stands c.hold_node.new.self) c.hold_node.result is
    mean (c.hold_node.ensures.held stand.meant stand.held)

pub returns-clause-fault : goal.returns-clause-fault
returns-clause-fault g c = λ x is.
    let stand = c.in_ok-kids.ensures.held in
    let mean = subst (λ os. AllMean c.args.self.now.graph.now c.args.self.now.kinds.now c.args.self.now.roles.now os stand.meant) c.deref.ensures.value stand.mean in
    tree_refused c.args.self.now.graph.now c.args.self.now.kinds.now c.args.self.now.roles.now x c.args.form.now stand.meant c.hold_node.result is mean
    (c.hold_node.ensures.fault stand.meant stand.held)
