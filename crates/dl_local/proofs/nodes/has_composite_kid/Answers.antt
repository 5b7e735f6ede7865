use Rattle.std.proofs.Common.{arith, rules}
use Rattle.owl_arena.proofs.HeldLaws.{below_later}
use Rattle.dl_local.proofs.OwnLaws.{asks_told}
use Rattle.dl_local.proofs.nodes.has_composite_kid.Goals as goal

pub returns-then-asks_simple : goal.returns-then-asks_simple
returns-then-asks_simple c =
    λ o each.
    asks_told o c.args.arena.now.trees c.args.composite.now c.args.id c.kids.result.now _ each (below_later c.kids.result.now c.args.id _ (omega (arith, c.requires)) c.kids.ensures.below) c.kids.ensures.kids (search rules) c.some_marked.ensures
