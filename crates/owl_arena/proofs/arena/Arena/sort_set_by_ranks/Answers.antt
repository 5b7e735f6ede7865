use Rattle.std.proofs.Common.{◌<◌, ◌∙◌, length}
use Rattle.owl_list.proofs.AscendingLaws.{all_same, ascending_same, same_map, same_sym, same_trans}
use Rattle.owl_list.proofs.LentLaws.{moved_holds}
use Rattle.owl_tree.specs.Order.{tree_cmp}
use Rattle.owl_tree.specs.OrderLaws.{only_equal_trees_tie, trees_total}
use Rattle.owl_arena.specs.Held.{tree_at, trees_at}
use Rattle.owl_arena.proofs.arena.Arena.sort_set_by_ranks.Goals as goal

pub sort_set-requires : goal.sort_set-requires
sort_set-requires c =
    all_same (λ id. id < length c.args.self.now.trees) c.args.ids.now.items c.sort_roughly.new.ids.items (same_sym _ _ (moved_holds _ _ c.sort_roughly.ensures)) c.requires

pub returns-clause-ascending : goal.returns-clause-ascending
returns-clause-ascending c =
    let ts = c.args.self.now.trees in
    c.sort_set.ensures.ascending
    ∙ ascending_same tree_cmp trees_total only_equal_trees_tie (trees_at ts c.sort_roughly.new.ids.items) (trees_at ts c.args.ids.now.items)
    (same_map (tree_at ts) c.sort_roughly.new.ids.items c.args.ids.now.items (moved_holds _ _ c.sort_roughly.ensures))

pub returns-clause-same : goal.returns-clause-same
returns-clause-same c = same_trans _ _ _ c.sort_set.ensures.same (moved_holds _ _ c.sort_roughly.ensures)
