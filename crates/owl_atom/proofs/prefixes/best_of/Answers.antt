use Rattle.std.proofs.Common.{◌≡◌, ◌+◌, arith, length, sym, subst}
use Rattle.owl_atom.specs.Places.{IsBest, first}
use Rattle.owl_atom.proofs.Shortening.{one_more}
use Rattle.owl_atom.proofs.prefixes.best_of.Goals as goal

pub loop-place-preserved : goal.loop-place-preserved
loop-place-preserved c =
    let held = c.args.held.now in
    subst (IsBest held (first (c.loop-place.place + 1)) c.args.iri.now) (sym c.longer-best.ensures)
    (one_more held c.loop-place.place c.args.iri.now c.loop-place.best c.cut_at.result c.requires c.loop-place.invariant c.cut_at.ensures)

pub returns : goal.returns
returns c =
    let all : c.loop-place.place ≡ length c.args.held.now = omega arith in
    subst (λ n. IsBest c.args.held.now (first n) c.args.iri.now c.loop-place.best) all c.loop-place.invariant
