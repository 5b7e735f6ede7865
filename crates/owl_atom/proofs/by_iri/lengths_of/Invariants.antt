use Rattle.std.proofs.Common.{◌≡◌, take}
use Rattle.std.specs.Prelude.{map}
use Rattle.owl_atom.specs.ByIri.{size_of}
use Rattle.owl_atom.proofs.by_iri.lengths_of.Given as goal

abbrev pub invariant-loop-place : goal.invariant-loop-place
invariant-loop-place l = l.lengths.items ≡ map size_of (take l.place l.held)
