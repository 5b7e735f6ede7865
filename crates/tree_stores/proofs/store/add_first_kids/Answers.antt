use Rattle.tree_stores.proofs.StoreLaws.{first_stands}
use Rattle.tree_stores.proofs.store.add_first_kids.Goals as goal

pub add_kids-requires : goal.add_kids-requires
add_kids-requires g c =
    first_stands (g.S.TreeStore.stands c.args.store.now) c.args.numbers.now c.first-item.result c.in-len1-up.len_at_least c.first-item.is c.requires
