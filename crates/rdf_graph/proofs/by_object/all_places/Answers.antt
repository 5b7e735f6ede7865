use Rattle.std.proofs.Common.{◌≡◌, arith, subst, length}
use Rattle.rdf_graph.proofs.Index.{AreBelow, one_more}
use Rattle.rdf_graph.proofs.by_object.all_places.Goals as goal

pub loop-place-preserved : goal.loop-place-preserved
loop-place-preserved c = one_more c.loop-place.place c.loop-place.places.items c.push.new.self.items c.in_ok-push.ensures.items c.loop-place.invariant

pub returns : goal.returns
returns c = let all : c.loop-place.place ≡ length c.args.triples.now = omega arith in subst (λ n. AreBelow n c.loop-place.places.items) all c.loop-place.invariant
