use Rattle.std.proofs.Common.{arith}
use Rattle.rdf_normal.proofs.TidyTrees.{one_longer, tidied_further}
use Rattle.rdf_normal.proofs.tidying.tidied_all.Goals as goal

pub places-preserved : goal.places-preserved
places-preserved c = (
  tidied_further c.args.arena.now.trees c.places.arena.trees c.tidied.new.arena.trees c.places.made.items c.push.new.ids.items c.places.place c.at-id.result c.in_ok-tidied.tidied c.places.invariant.0 (let e = c.distinct-count.ensures.trees in let l = c.places-test.true in omega arith) c.at-id.ensures c.in_ok-tidied.ensures.made c.in_ok-push.ensures.pushed,
  one_longer c.places.made.items c.push.new.ids.items c.in_ok-tidied.tidied c.places.place c.in_ok-push.ensures.pushed c.places.invariant.1,
)
