use Rattle.std.proofs.Common.{◌≡◌, ◌+◌, arith, length, sym, subst}
use Rattle.owl_atom.specs.ByIri.{AreFronts}
use Rattle.owl_atom.proofs.ByIri.{all_fronts, more_fronts}
use Rattle.owl_atom.proofs.by_iri.fronts_of.Goals as goal

pub loop-place-preserved : goal.loop-place-preserved
loop-place-preserved c =
    subst (AreFronts c.args.held.now (c.loop-place.place + 1)) (sym c.in_ok-push.ensures)
    (more_fronts c.args.held.now c.loop-place.place c.loop-place.fronts.items c.at.result.now c.in_ok-iri.iri c.at.ensures c.in_ok-iri.ensures c.loop-place.invariant)

pub returns : goal.returns
returns c =
    let all : c.loop-place.place ≡ length c.args.held.now = omega arith in
    all_fronts c.args.held.now c.loop-place.place c.loop-place.fronts.items all c.loop-place.invariant
