use Rattle.std.proofs.Common.{arith, sym, ◌∙◌}
use Rattle.std.specs.Option.{option_map}
use Rattle.std.proofs.lemmas.Result.{IfOk-weaker}
use borrow.Author.Tests.{ltb-false, ltb-true}
use Rattle.owl_arena.specs.Held.{tree_at}
use Rattle.owl_tree.proofs.ShapeTestLaws.{not_other}
use Rattle.property_hierarchy.specs.Numbers.{chain_seen}
use Rattle.property_hierarchy.proofs.Chaining.{chain_of_two, no_chain, no_pair, two_at}
use Rattle.owl_tree.proofs.TagLaws.{tags_unequal}
use Rattle.property_hierarchy.proofs.chains.chain_at.Goals as goal
use Rattle.property_hierarchy.proofs.chains.chain_at.Goals.{in_default-via-then-operands-lt2, in_default-via-else-operands-lt2+else-this-lt3}

pub returns-then-ne : goal.returns-then-ne
returns-then-ne c =
    no_chain c.args.arena.now.trees (tree_at c.args.arena.now.trees c.args.id) (λ e. tags_unequal _ _ _ c.ne.ensures c.if-ne.true (c.tag.ensures ∙ e))

pub returns-in-len2 : goal.returns-in-len2
returns-in-len2 c =
    let ts = c.args.arena.now.trees in
    let e = sym c.tag.ensures ∙ not_other _ _ _ c.ne.ensures c.if-ne.false in
    let are = sym c.operands.ensures.operands ∙ two_at ts c.operands.result.now c.chain-item.result c.implied-item.result c.in-len2.len_at_least c.in-len2.len_below c.chain-item.is c.implied-item.is in
    IfOk-weaker c.chain_into.result _ _
    (λ chain h. chain_of_two ts (tree_at ts c.args.id) (tree_at ts c.chain-item.result) (tree_at ts c.implied-item.result) (option_map chain_seen chain) e are h) c.chain_into.ensures

pub returns-in_default : goal.returns-in_default
returns-in_default c =
    let e = sym c.tag.ensures ∙ not_other _ _ _ c.ne.ensures c.if-ne.false in
    no_pair c.args.arena.now.trees (tree_at c.args.arena.now.trees c.args.id) c.operands.result.now e c.operands.ensures.operands (elim c.in_default.branch [
      | in_default-via-then-operands-lt2 w ↦ λ l. omega (arith, ltb-true, ltb-false)
      | in_default-via-else-operands-lt2+else-this-lt3 w ↦ λ l. omega (arith, ltb-true, ltb-false)
    ])
