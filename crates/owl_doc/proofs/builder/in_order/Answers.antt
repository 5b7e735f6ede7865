use Rattle.std.proofs.Common.{◌≡◌, ℕ, List, ap, ◌∙◌, subst}
use Rattle.owl_list.specs.Ascending.{ascending, HoldSame}
use Rattle.owl_tree.specs.Order.{tree_cmp}
use Rattle.owl_arena.specs.Held.{trees_at}
use Rattle.owl_doc.proofs.Finished.{in_canonical_order, weight_in_order}
use Rattle.owl_doc.proofs.builder.in_order.Goals as goal

-- the order is of the trees that came
arranged : (c : goal.After-sort_set) → trees_at c.args.arena.now.trees c.sort_set.new.ids.items ≡ ascending tree_cmp (trees_at c.args.arena.now.trees c.args.ids)
arranged c = c.sort_set.ensures.ascending ∙ ap (λ (ids : List ℕ). ascending tree_cmp (trees_at c.args.arena.now.trees ids)) c.into_list-ids.ensures.ids

pub returns-clause-order : goal.returns-clause-order
returns-clause-order c = in_canonical_order c.args.arena.now.trees c.args.ids _ c.distinct-trees.ensures.shared c.requires (arranged c)

pub returns-clause-same : goal.returns-clause-same
returns-clause-same c = subst (λ (ids : List ℕ). HoldSame c.sort_set.new.ids.items ids) c.into_list-ids.ensures.ids c.sort_set.ensures.same

pub returns-clause-weight : goal.returns-clause-weight
returns-clause-weight c = weight_in_order c.args.arena.now.trees c.args.ids _ c.distinct-trees.ensures.shared c.requires c.into_list-ids.ensures.once (arranged c)
