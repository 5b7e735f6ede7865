use Rattle.owl_list.proofs.LentLaws.{moved_back}
use Rattle.owl_list.proofs.ranks.sort_by_ranks.Goals as goal

pub returns-then-is_ok : goal.returns-then-is_ok
returns-then-is_ok g c =
    moved_back c.args.items.now.items c.sort_by_cached_key-ranked.new.self.items c.deref_mut.result.now c.sort_ties.new.items _ c.sort_by_cached_key-ranked.ensures.permutation
    c.deref_mut.ensures.value c.deref_mut.ensures.len c.sort_ties.ensures
