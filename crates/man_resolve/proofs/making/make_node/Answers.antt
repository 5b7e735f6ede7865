use Rattle.std.proofs.Common.{◌∙◌, ◌-◌, ap, drop, subst, sym}
use Rattle.owl_characters.proofs.ResultLaws.{passed}
use Rattle.tree_stores.specs.Stores.{StandFor}
use Rattle.man_resolve.specs.Building.{a_node}
use Rattle.man_resolve.specs.Making.{stepped}
use Rattle.man_resolve.proofs.MakingLaws.{node_fault, node_stands, stand_behind}
use Rattle.man_resolve.proofs.making.make_node.Goals as goal

pub hold_node-requires : goal.hold_node-requires
hold_node-requires g c =
    let Old = g.S.TreeStore.stands c.args.store.now in
    let at = c.saturating_sub-front.result in
    record {
      trees = drop at c.requires.trees;
      stand = subst (StandFor Old (drop at c.requires.trees)) (sym c.in_ok-kids.ensures.tail) (stand_behind Old at c.requires.trees c.args.numbers.now.items c.requires.stand);
    }

pub returns-in_err-number-clause-fault : goal.returns-in_err-number-clause-fault
returns-in_err-number-clause-fault g c =
    let Old = g.S.TreeStore.stands c.args.store.now in
    let fault = c.in_err-number.field-0.0 in
    passed c.from_residual-in_err-number.result fault _ c.from_residual-in_err-number.ensures.1
    (λ ts h. node_fault Old ts c.args.numbers.now.items c.in_ok-kids.kids.items c.args.tag c.args.count c.saturating_sub-front.result fault (c.saturating_sub-front.ensures ∙ ap (λ n. n - c.args.count) (c.len.ensures ∙ c.args.numbers.now.ok.0)) c.in_ok-kids.ensures.tail h c.in_err-number.ensures.fault)

pub returns-clause-made : goal.returns-clause-made
returns-clause-made g c = λ ts h.
    let Old = g.S.TreeStore.stands c.args.store.now in
    let New = g.S.TreeStore.stands c.hold_node.new.self in
    subst (StandFor New (stepped (a_node c.args.tag c.args.count) ts)) (sym c.in_ok-push.ensures)
    (node_stands Old New c.in_ok-number.ensures.kept ts c.args.numbers.now.items h c.args.tag c.args.count c.saturating_sub-front.result c.split_off.new.self.items c.in_ok-kids.kids.items c.in_ok-number.number (c.saturating_sub-front.ensures ∙ ap (λ n. n - c.args.count) (c.len.ensures ∙ c.args.numbers.now.ok.0)) c.in_ok-kids.ensures.items c.in_ok-kids.ensures.tail c.in_ok-number.ensures.held)
