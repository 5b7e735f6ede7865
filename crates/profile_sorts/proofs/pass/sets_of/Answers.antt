use Rattle.std.proofs.Common.{rules}
use Rattle.profile_sorts.proofs.MemoLaws.{sets_more}
use Rattle.profile_sorts.proofs.pass.sets_of.Goals as goal

pub places-preserved : goal.places-preserved
places-preserved c = record {
  size = search rules;
  told = sets_more c.args.arena.now.trees c.places.sets.items c.deref-in-places.result.now _ c.sorts_at-set.result c.places.place c.at.result (search rules) c.places.invariant.size c.at.ensures c.deref-in-places.ensures.value c.places.invariant.told c.sorts_at-set.ensures;
}
