use Rattle.owl_atom.specs.ByIri.{AreFronts}
use Rattle.owl_atom.proofs.by_iri.fronts_of.Given as goal

abbrev pub invariant-loop-place : goal.invariant-loop-place
invariant-loop-place l = AreFronts l.held l.place l.fronts.items
