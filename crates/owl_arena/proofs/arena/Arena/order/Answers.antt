use Rattle.std.proofs.Common.{rules}
use Rattle.std.proofs.lemmas.Fn.{always_returns_same}
use Rattle.std.proofs.lemmas.List.MinMax.{ranks_by}
use Rattle.std.specs.Ordering.{is_lt}
use Rattle.owl_arena.proofs.Ordering.{numbers_total}
use Rattle.owl_arena.specs.InOrder.{numbers_cmp}
use Rattle.owl_arena.proofs.arena.Arena.order.Goals as goal

pub returns-clause-sorted : goal.returns-clause-sorted
returns-clause-sorted c = record {
  sorted = c.sort_unstable_by.ensures.sorted (λ x y. is_lt (numbers_cmp c.args.self.now.trees x y)) (ranks_by (numbers_total c.args.self.now.trees) (λ x. x)) (always_returns_same _ _ _ (λ a r g k. search rules));
}
