use Rattle.std.proofs.Common.{◌<◌, ◌≤◌, ℕ, List, ap, get_or, length, subst, take}
use Rattle.std.proofs.lemmas.List.{take_all}
use Rattle.owl_atom.specs.ByIri.{sized}
use Rattle.owl_atom.specs.Places.{IsBest}
use Rattle.owl_atom.proofs.ByIri.{next_length, of_all}
use Rattle.owl_atom.proofs.by_iri.ByIri.best_of.Goals as goal

pub loop-length-preserved : goal.loop-length-preserved
loop-length-preserved c = λ held up is.
    next_length held c.args.self.now.lengths.items c.loop-length.length-index _ c.args.iri.now c.better_at-best.result
    (subst (λ (ns : List ℕ). c.loop-length.length-index < length ns) c.deref-length-items.ensures.value c.loop-length-test.true)
    (ap (λ (ns : List ℕ). get_or ns c.loop-length.length-index 0) c.deref-length-items.ensures.value)
    (c.better_at-best.ensures held (take c.loop-length.length-index c.args.self.now.lengths.items) up is (c.loop-length.invariant held up is))

pub returns : goal.returns
returns c = λ held up is.
    of_all held c.args.self.now c.args.iri.now c.loop-length.best is
    (subst (λ ns. IsBest held (sized ns) c.args.iri.now c.loop-length.best)
    (take_all c.loop-length.length-index c.args.self.now.lengths.items (subst (λ (ns : List ℕ). length ns ≤ c.loop-length.length-index) c.deref-length-items.ensures.value c.loop-length-test.false))
    (c.loop-length.invariant held up is))
