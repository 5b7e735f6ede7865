use Rattle.std.proofs.Common.{ap, ◌∙◌, sym, subst}
use Rattle.owl_arena.proofs.Ordering.{held_in_order, same_in_order, trees_in_order}
use Rattle.owl_arena.specs.Held.{AreHeld, trees_at}
use Rattle.owl_arena.proofs.arena.Arena.sort_set.Goals as goal

pub returns-clause-ascending : goal.returns-clause-ascending
returns-clause-ascending c = ap (trees_at c.args.self.now.trees) c.arrange_from.ensures ∙ trees_in_order c.args.self.now.trees c.distinct.ensures.shared.one_number 0 c.args.kids.now.items c.requires

pub returns-clause-same : goal.returns-clause-same
returns-clause-same c = same_in_order c.args.self.now.trees c.args.kids.now.items _ c.arrange_from.ensures

pub returns-clause-held : goal.returns-clause-held
returns-clause-held c = subst (AreHeld c.args.self.now.trees) (sym c.arrange_from.ensures) (held_in_order c.args.self.now.trees 0 c.args.kids.now.items c.requires)
