use Rattle.owl_atom.specs.Places.{IsBest, first}
use Rattle.owl_atom.proofs.prefixes.best_of.Given as goal

abbrev pub invariant-loop-place : goal.invariant-loop-place
invariant-loop-place l = IsBest l.held (first l.place) l.iri l.best
