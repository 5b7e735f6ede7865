use Rattle.std.proofs.Common.{ℕ, List, map, subst}
use Rattle.std.proofs.lemmas.List.{take_all}
use Rattle.owl_documents.specs.Documents.{parsed_of}
use Rattle.owl_answer.specs.KindsAt.{AreDeclaredAt}
use Rattle.owl_answer.proofs.KindsAt.{next_place}
use Rattle.owl_answer.proofs.kinds.declare_all.Goals as goal

pub loop-place-preserved : goal.loop-place-preserved
loop-place-preserved c =
    next_place (map parsed_of c.args.docs.now) c.args.places.now c.loop-place.place-index c.loop-place.kinds c.declare_at.new.kinds c.loop-place-test.true c.loop-place.invariant c.in_ok-declare_at.ensures

pub returns : goal.returns
returns c =
    subst (λ (ps : List ℕ). AreDeclaredAt (map parsed_of c.args.docs.now) ps c.loop-place.kinds) (take_all c.loop-place.place-index c.args.places.now c.loop-place-test.false) c.loop-place.invariant
