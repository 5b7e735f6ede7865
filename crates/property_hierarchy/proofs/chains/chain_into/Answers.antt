use Rattle.std.proofs.Common.{length, arith, sym, ◌∙◌}
use Rattle.owl_arena.specs.Held.{tree_at, trees_at}
use Rattle.owl_arena.proofs.HeldLaws.{below_later, entry_at}
use Rattle.owl_tree.proofs.ShapeTestLaws.{not_other}
use Rattle.property_hierarchy.proofs.Chaining.{chain_there, no_chain_first, no_implied}
use Rattle.owl_tree.proofs.TagLaws.{tags_unequal}
use Rattle.property_hierarchy.proofs.chains.chain_into.Goals as goal

pub returns-then-ne : goal.returns-then-ne
returns-then-ne c =
    let ts = c.args.arena.now.trees in
    no_chain_first ts (tree_at ts c.args.chain) (tree_at ts c.args.implied) (λ e. tags_unequal _ _ _ c.ne.ensures c.if-ne.true (c.tag.ensures ∙ e))

pub properties_at-requires-clause-ids : goal.properties_at-requires-clause-ids
properties_at-requires-clause-ids c =
    below_later c.kids.result.now c.args.chain (length c.args.arena.now.trees) (omega (arith, c.requires.chain)) c.kids.ensures.below

pub returns-in_ok-properties_at-in-Some : goal.returns-in_ok-properties_at-in-Some
returns-in_ok-properties_at-in-Some c =
    let ts = c.args.arena.now.trees in
    chain_there ts (tree_at ts c.args.chain) (tree_at ts c.args.implied) c.in_ok-properties_at-in-Some.field-0.items c.in-Some.implied (trees_at ts c.kids.result.now)
    (entry_at ts c.args.chain c.requires.shared c.requires.chain).shaped (sym c.tag.ensures ∙ not_other _ _ _ c.ne.ensures c.if-ne.false) c.in-Some.ensures c.kids.ensures.kids c.in_ok-properties_at-in-Some.ensures

pub returns-in-None : goal.returns-in-None
returns-in-None c =
    let ts = c.args.arena.now.trees in
    no_implied ts (tree_at ts c.args.chain) (tree_at ts c.args.implied) (entry_at ts c.args.chain c.requires.shared c.requires.chain).shaped
    (sym c.tag.ensures ∙ not_other _ _ _ c.ne.ensures c.if-ne.false) c.in-None.ensures
