use Rattle.std.proofs.Common.{rules}
use Rattle.owl_arena.proofs.Ordering.{put_in_order}
use Rattle.owl_arena.proofs.arena.Arena.arrange_from.Goals as goal

pub returns-then-front-len : goal.returns-then-front-len
returns-then-front-len c =
    let e = c.order_from.ensures in
    put_in_order c.args.self.now.trees c.args.front c.args.kids.now.items c.order_from.new.kids.items c.drop_repeats.new.kids.items (search rules) e.front e.moved e.sorted c.drop_repeats.ensures
