use Rattle.std.proofs.Common.{List, ap, sym, ◌∙◌, ◌++◌}
use Rattle.std.specs.List.{flat_map}
use Rattle.std.proofs.lemmas.Result.{on_ok_weaker}
use Rattle.dl_rules.specs.Properties.{with_inverse}
use Rattle.owl_arena.specs.Held.{tree_at, trees_at}
use Rattle.owl_tree.proofs.ShapeTestLaws.{not_other}
use Rattle.property_hierarchy.specs.declared.numbers.PropertyNumber.{PropertyNumber}
use Rattle.property_hierarchy.specs.Numbers.{inverse_number}
use Rattle.property_hierarchy.proofs.Compositing.{transitive_all, transitive_none}
use Rattle.owl_tree.proofs.TagLaws.{tags_unequal}
use Rattle.property_hierarchy.proofs.composites.push_transitive.Goals as goal

pub returns-then-ne : goal.returns-then-ne
returns-then-ne c =
    transitive_none c.args.arena.now.trees (tree_at c.args.arena.now.trees c.args.id) _ (λ e. tags_unequal _ _ _ c.ne.ensures c.if-ne.true (c.tag.ensures ∙ e))

pub returns : goal.returns
returns c =
    let ts = c.args.arena.now.trees in
    on_ok_weaker c.push_both.result
    (λ e. transitive_all ts (tree_at ts c.args.id) (trees_at ts c.operands.result.now) c.in_ok-more.more.items _ _ (sym c.tag.ensures ∙ not_other _ _ _ c.ne.ensures c.if-ne.false)
    c.operands.ensures.operands c.in_ok-more.ensures
    (e ∙ ap (λ (more : List PropertyNumber). c.args.numbers.now.items ++ flat_map (with_inverse inverse_number) more) c.deref.ensures.value)) c.push_both.ensures
