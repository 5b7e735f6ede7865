use Rattle.std.proofs.Common.{rules, arith}
use Rattle.owl_arena.specs.Held.{trees_at}
use Rattle.rdf_normal.proofs.Looping.{pair_more, trio_is}
use Rattle.rdf_normal.proofs.spreading.add_pairs.Goals as goal

pub members-preserved : goal.members-preserved
members-preserved c = (
  (let low = c.members.invariant.0 in omega arith),
  pair_more c.args.tag c.args.arena.now.trees c.members.arena.trees c.make.new.arena.trees (trees_at c.args.arena.now.trees c.args.made.now.items) c.members.made.items c.push.new.ids.items c.args.kids.now c.in_ok-pair.pair.items c.members.place c.in_ok-id.id c.members.invariant.1 c.requires.kids c.members.invariant.0 c.members-test.true
      (trio_is c.args.kids.now c.in_ok-pair.pair.items c.index-kids-0.result c.index-kids-place.result c.index-kids-place-in-members.result c.members.place c.in_ok-pair.ensures.items c.index-kids-0.is c.index-kids-place.is c.index-kids-place-in-members.is c.members-test.true) c.in_ok-id.ensures.made (search rules),
)
