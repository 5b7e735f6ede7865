use Rattle.std.specs.List.{AllByRecursion}
use Rattle.std.proofs.Common.{rules, ◌≡◌, ◌++◌, ◌∷◌, [], subst, sym}
use Rattle.std.proofs.lemmas.List.{nil_from_length}
use Rattle.rdf_nodes.specs.Numbers.{HasItsNumber}
use Rattle.rdf_nodes.proofs.Holding.{AreHeldUpTo, all_held, none_held, numbered_kept, one_more_held}
use Rattle.rdf_nodes.proofs.source.Source.hold_operands.Goals as goal

pub loop-operand-init : goal.loop-operand-init
loop-operand-init g c =
    let graph = c.args.self.now.graph.now in
    let k = c.args.self.now.kinds.now in
    let roles = c.args.self.now.roles.now in
    let old = g.S.TreeStore.stands c.args.store.now in (
      subst (λ kids. AreHeldUpTo graph k roles old c.args.operands.now old kids c.args.operands.now) (sym c.new-kids.ensures.items) (none_held graph k roles old c.args.operands.now),
      c.requires.known,
    )

pub hold_operand-requires-clause-numbered : goal.hold_operand-requires-clause-numbered
hold_operand-requires-clause-numbered g c =
    numbered_kept c.args.self.now.graph.now c.args.self.now.kinds.now c.args.self.now.roles.now (g.S.TreeStore.stands c.args.store.now) (g.S.TreeStore.stands c.loop-operand.store)
    c.args.ids.now c.loop-operand.invariant.0.kept c.requires.numbered

pub loop-operand-preserved : goal.loop-operand-preserved
loop-operand-preserved g c =
    let graph = c.args.self.now.graph.now in
    let k = c.args.self.now.kinds.now in
    let roles = c.args.self.now.roles.now in
    let old = g.S.TreeStore.stands c.args.store.now in
    let new = g.S.TreeStore.stands c.hold_operand.new.store in
    let items : c.push.new.self.items ≡ c.loop-operand.kids.items ++ c.in_ok-kid.kid ∷ [] = search rules in (
      subst (λ kids. AreHeldUpTo graph k roles old c.args.operands.now new kids c.in-Some.behind.now) (sym items)
          (one_more_held graph k roles old c.args.operands.now (g.S.TreeStore.stands c.loop-operand.store) new c.loop-operand.kids.items c.in-Some.operand.now c.in_ok-kid.kid
          c.loop-operand.rest.now c.in-Some.behind.now c.loop-operand.invariant.0 c.in-Some.ensures.cases.0 c.in_ok-kid.ensures.held c.hold_operand.ensures.kept),
      (subst (AllByRecursion (HasItsNumber c.args.ids.now)) c.in-Some.ensures.cases.0 c.loop-operand.invariant.1).1,
    )

pub hold_operand-requires-clause-known : goal.hold_operand-requires-clause-known
hold_operand-requires-clause-known g c = (subst (AllByRecursion (HasItsNumber c.args.ids.now)) c.in-Some.ensures.cases.0 c.loop-operand.invariant.1).0

pub returns-clause-held : goal.returns-clause-held
returns-clause-held g c =
    all_held c.args.self.now.graph.now c.args.self.now.kinds.now c.args.self.now.roles.now (g.S.TreeStore.stands c.args.store.now) c.args.operands.now
    (g.S.TreeStore.stands c.loop-operand.store) c.loop-operand.kids.items c.loop-operand.rest.now c.loop-operand.invariant.0
    (nil_from_length c.loop-operand.rest.now c.in_default.ensures.cases)
