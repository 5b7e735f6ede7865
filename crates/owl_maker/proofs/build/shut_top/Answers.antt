use Rattle.std.proofs.Common.{rules, ◌≡◌, ◌≤◌, ◌++◌, ◌∷◌, [], subst}
use Rattle.owl_arena.specs.Held.{node_over}
use Rattle.owl_arena.specs.Shared.{deepest}
use Rattle.owl_maker.specs.declared.parts.Open as parts
use Rattle.owl_maker.specs.Kept.{numbers_in}
use Rattle.owl_tree.specs.Canonical.{canonical}
use Rattle.owl_tree.specs.Shape.{IsShaped}
use Rattle.owl_tree.specs.Trees.{Tree, depth}
use Rattle.owl_maker.proofs.Shutting.{held_made, none_told, outlines_after_shut, shut_heavy, shut_light, top_is}
use Rattle.owl_maker.proofs.Stacks.{held_before, item_still_held, numbers_last, still_held}
use Rattle.owl_maker.proofs.build.shut_top.Goals as goal

pub make_node-requires-clause-held : goal.make_node-requires-clause-held
make_node-requires-clause-held c =
    let top : parts.Open = c.unwrap-top.result in
    let was : c.args.stack.now.items ≡ c.pop.new.self.items ++ top ∷ [] = search rules in
    (held_before c.args.builder.now.arena.trees c.args.stack.now.items c.pop.new.self.items top was c.requires.held).0

pub make_node-requires-clause-shaped : goal.make_node-requires-clause-shaped
make_node-requires-clause-shaped c =
    let top : parts.Open = c.unwrap-top.result in
    let was : c.args.stack.now.items ≡ c.pop.new.self.items ++ top ∷ [] = search rules in
    λ light. subst IsShaped (top_is c.args.builder.now.arena.trees c.args.stack.now.items c.pop.new.self.items top was) (c.requires.shaped light)

pub make_node-requires-clause-level : goal.make_node-requires-clause-level
make_node-requires-clause-level c =
    let top : parts.Open = c.unwrap-top.result in
    let was : c.args.stack.now.items ≡ c.pop.new.self.items ++ top ∷ [] = search rules in
    λ light. subst (λ (t : Tree). depth t ≤ deepest) (top_is c.args.builder.now.arena.trees c.args.stack.now.items c.pop.new.self.items top was) (c.requires.level light)

pub returns-in_err-made-clause-held : goal.returns-in_err-made-clause-held
returns-in_err-made-clause-held c =
    let top : parts.Open = c.unwrap-top.result in
    let was : c.args.stack.now.items ≡ c.pop.new.self.items ++ top ∷ [] = search rules in
    let g = c.make_node.ensures.grows in
    let old = c.args.builder.now.arena.trees in
    still_held old c.make_node.new.builder.arena.trees g.more g.trees (numbers_in c.pop.new.self.items) (held_before old c.args.stack.now.items c.pop.new.self.items top was c.requires.held).1

pub returns-in_err-made-clause-item_held : goal.returns-in_err-made-clause-item_held
returns-in_err-made-clause-item_held c =
    let g = c.make_node.ensures.grows in
    item_still_held c.args.builder.now.arena.trees c.make_node.new.builder.arena.trees g.more g.trees c.args.item.now c.requires.item_held

pub returns-clause-outlines : goal.returns-clause-outlines
returns-clause-outlines c =
    let top : parts.Open = c.unwrap-top.result in
    let was : c.args.stack.now.items ≡ c.pop.new.self.items ++ top ∷ [] = search rules in
    outlines_after_shut c.place.result c.args.stack.now.items c.pop.new.self.items c.place.new.stack.items top c.is_key_group-is_key.result was c.is_key_group-is_key.ensures c.place.ensures.outlines

pub returns-clause-light : goal.returns-clause-light
returns-clause-light c =
    let top : parts.Open = c.unwrap-top.result in
    let was : c.args.stack.now.items ≡ c.pop.new.self.items ++ top ∷ [] = search rules in
    let g = c.make_node.ensures.grows in
    let old = c.args.builder.now.arena.trees in
    let before = c.args.stack.now.items in
    let rest = c.pop.new.self.items in
    shut_light c.place.result c.in_ok-made.made c.args.is_heavy.now c.is_none.result old c.make_node.new.builder.arena.trees g.more (node_over old top.outline.tag top.kids.items) _ (numbers_in before) (numbers_in rest) (numbers_in c.place.new.stack.items) top.kids.items c.args.item.now c.place.new.item (top_is old before rest top was) (numbers_last before rest top was) c.place.ensures.kids c.place.ensures.item g.trees c.in_ok-made.ensures.some (none_told c.is_none.result c.in_ok-made.made c.is_none.ensures) (held_before old before rest top was c.requires.held).1 c.requires.item_held

pub returns-clause-heavy : goal.returns-clause-heavy
returns-clause-heavy c =
    let top : parts.Open = c.unwrap-top.result in
    let was : c.args.stack.now.items ≡ c.pop.new.self.items ++ top ∷ [] = search rules in
    let old = c.args.builder.now.arena.trees in
    shut_heavy c.place.result c.in_ok-made.made c.args.is_heavy.now c.is_none.result (node_over old top.outline.tag top.kids.items) _ (top_is old c.args.stack.now.items c.pop.new.self.items top was) (none_told c.is_none.result c.in_ok-made.made c.is_none.ensures) c.in_ok-made.ensures.none

pub returns-clause-held : goal.returns-clause-held
returns-clause-held c =
    let top : parts.Open = c.unwrap-top.result in
    let was : c.args.stack.now.items ≡ c.pop.new.self.items ++ top ∷ [] = search rules in
    let g = c.make_node.ensures.grows in
    let old = c.args.builder.now.arena.trees in
    let new = c.make_node.new.builder.arena.trees in
    let rest = still_held old new g.more g.trees (numbers_in c.pop.new.self.items) (held_before old c.args.stack.now.items c.pop.new.self.items top was c.requires.held).1 in
    c.place.ensures.held new (held_made new c.in_ok-made.made c.args.is_heavy.now (canonical (node_over old top.outline.tag top.kids.items)) c.in_ok-made.ensures.some) rest

pub returns-clause-item_held : goal.returns-clause-item_held
returns-clause-item_held c =
    let top : parts.Open = c.unwrap-top.result in
    let g = c.make_node.ensures.grows in
    let old = c.args.builder.now.arena.trees in
    let new = c.make_node.new.builder.arena.trees in
    c.place.ensures.item_held new (held_made new c.in_ok-made.made c.args.is_heavy.now (canonical (node_over old top.outline.tag top.kids.items)) c.in_ok-made.ensures.some) (item_still_held old new g.more g.trees c.args.item.now c.requires.item_held)
