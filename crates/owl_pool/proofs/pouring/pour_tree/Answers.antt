use Rattle.std.proofs.Common.{rules, sym, subst}
use Rattle.std.specs.Prelude.{IfOk}
use Rattle.owl_arena.proofs.HeldLaws.{entry_at}
use Rattle.owl_arena.specs.Shared.{IsEntry}
use Rattle.owl_pool.specs.Pooling.{IsPoured}
use Rattle.owl_pool.proofs.Renumbering.{kids_held, kids_there, leaf_there, node_there}
use Rattle.owl_pool.proofs.pouring.pour_tree.Goals as goal

pub hold_leaf-requires : goal.hold_leaf-requires
hold_leaf-requires c = subst IsEntry (sym (leaf_there _ _ _ c.tag-tag.ensures (search rules))) (entry_at _ _ c.distinct-trees.ensures.shared c.requires.id)

pub returns-in_ok-copy-in-Some : goal.returns-in_ok-copy-in-Some
returns-in_ok-copy-in-Some c =
    subst (λ t. IfOk c.hold_leaf.result (IsPoured c.args.pool.now.trees c.hold_leaf.new.pool.trees t)) (leaf_there _ _ _ c.tag-tag.ensures (search rules))
    c.hold_leaf.ensures

pub renumbered-requires : goal.renumbered-requires
renumbered-requires c = kids_there _ _ _ _ c.requires.id c.requires.numbers _ c.kids.ensures.below

pub hold_node-requires : goal.hold_node-requires
hold_node-requires c =
    let kids = c.in_ok-kids-in-None.ensures in
    let is = node_there _ _ _ _ c.requires.id c.requires.numbers _ c.kids.ensures.below _ _ c.tag-tag.ensures (search rules) c.kids.ensures.kids kids in
    record { held = kids_held _ _ _ _ c.requires.id c.requires.numbers _ c.kids.ensures.below _ kids; entry = subst IsEntry (sym is) (entry_at _ _ c.distinct-trees.ensures.shared c.requires.id) }

pub returns-in_ok-kids-in-None : goal.returns-in_ok-kids-in-None
returns-in_ok-kids-in-None c =
    let is = node_there _ _ _ _ c.requires.id c.requires.numbers _ c.kids.ensures.below _ _ c.tag-tag.ensures (search rules) c.kids.ensures.kids c.in_ok-kids-in-None.ensures in
    subst (λ t. IfOk c.hold_node.result (IsPoured c.args.pool.now.trees c.hold_node.new.pool.trees t)) is c.hold_node.ensures
