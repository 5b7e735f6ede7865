use Rattle.std.proofs.Common.{arith, subst, ◌+◌}
use Rattle.rdf_normal.specs.Staying.{StayTidied}
use Rattle.rdf_normal.proofs.staying.are_tidy.Goals as goal

pub places-preserved : goal.places-preserved
places-preserved c = subst (λ n. StayTidied c.args.arena.now.trees (n + 1)) c.at.ensures (c.is_tidy.ensures c.if-not-is_tidy.false)

pub returns : goal.returns
returns c = λ _ id l. c.places.invariant id (let e = c.distinct-place-end.ensures.trees in let past = c.places-test.false in omega arith)
