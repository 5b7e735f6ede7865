use Rattle.std.proofs.Common.{rules}
use Rattle.owl_pool.proofs.Growing.{pooled_more}
use Rattle.owl_pool.proofs.pouring.pour_all.Goals as goal

pub docs-preserved : goal.docs-preserved
docs-preserved c =
    pooled_more _ _ c.in_ok-poured.ensures.grows c.args.docs.now _ _ _ _ _ (search rules) c.docs-test.true c.doc-item.is c.docs.invariant c.in_ok-poured.ensures.pooled
