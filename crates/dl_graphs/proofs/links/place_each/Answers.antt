use Rattle.dl_graphs.proofs.LinkLaws.{listed_next}
use Rattle.dl_graphs.proofs.links.place_each.Goals as goal

pub axioms-preserved : goal.axioms-preserved
axioms-preserved c =
    listed_next c.args.arena.now.trees c.args.axioms.now c.axioms.id-index c.id-item.result c.axioms.seen.keys c.place_in.new.seen.keys c.axioms.places.items c.push.new.self.items c.in_ok-place.place c.axioms-test.true c.id-item.is c.axioms.invariant c.in_ok-place.ensures c.in_ok-push.ensures.items
