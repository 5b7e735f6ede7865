use Rattle.std.proofs.Common.{◌∙◌, sym, arith}
use Rattle.owl_arena.specs.Held.{tree_at}
use Rattle.owl_tree.proofs.ShapeTestLaws.{not_other}
use Rattle.property_hierarchy.proofs.Chaining.{one_at}
use Rattle.property_hierarchy.proofs.Numbering.{inverse_property, no_one_kid, other_property}
use Rattle.owl_tree.proofs.TagLaws.{tags_unequal}
use Rattle.property_hierarchy.proofs.numbers.property_at.Goals as goal

pub returns-then-ne : goal.returns-then-ne
returns-then-ne c =
    c.named_at.ensures ∙ other_property c.args.arena.now.trees (tree_at c.args.arena.now.trees c.args.id) (λ e. tags_unequal _ _ _ c.ne.ensures c.if-ne.true (c.tag.ensures ∙ e))

pub returns-in-len1 : goal.returns-in-len1
returns-in-len1 c =
    let e = sym c.tag.ensures ∙ not_other _ _ _ c.ne.ensures c.if-ne.false in
    let ts = c.args.arena.now.trees in
    c.inverse_at.ensures ∙ inverse_property ts (tree_at ts c.args.id) (tree_at ts c.kid-item.result) (sym e)
    (sym (one_at ts c.kids.result.now c.kid-item.result c.in-len1.len_at_least c.in-len1.len_below c.kid-item.is) ∙ c.kids.ensures.kids)

pub returns-in_default : goal.returns-in_default
returns-in_default c =
    let e = sym c.tag.ensures ∙ not_other _ _ _ c.ne.ensures c.if-ne.false in
    no_one_kid c.args.arena.now.trees c.args.id c.kids.result.now e c.kids.ensures.kids (λ l. omega (arith, c.in_default.len_below, l))

pub returns-in_default-2 : goal.returns-in_default-2
returns-in_default-2 c =
    let e = sym c.tag.ensures ∙ not_other _ _ _ c.ne.ensures c.if-ne.false in
    no_one_kid c.args.arena.now.trees c.args.id c.kids.result.now e c.kids.ensures.kids (λ l. omega (arith, c.in_default.len_at_least, l))
