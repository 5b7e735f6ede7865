use Rattle.std.proofs.Common.{rules, subst}
use Rattle.owl_arena.specs.Held.{tree_at}
use Rattle.owl_pool.specs.Pooling.{IsPoured}
use Rattle.owl_pool.proofs.Growing.{grows_on, numbers_more}
use Rattle.owl_pool.proofs.pouring.pour.Goals as goal

pub places-preserved : goal.places-preserved
places-preserved c =
    let poured = subst (λ k. IsPoured c.places.pool.trees c.pour_tree.new.pool.trees (tree_at c.args.arena.now.trees k) c.in_ok-number.number) c.at.ensures c.in_ok-number.ensures in
    record {
      grown = grows_on _ _ _ _ c.places.invariant.grown poured.added;
      numbers = numbers_more _ _ _ _ _ _ _ (search rules) (search rules) c.places.invariant.numbers poured;
    }
