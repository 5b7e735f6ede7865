use Rattle.std.proofs.Common.{◌<◌, ◌↔◌, ℕ}
use Rattle.std.specs.Prelude.{Contains}
use Rattle.rdf_graph.proofs.by_object.all_places.Given as goal

abbrev pub invariant-loop-place : goal.invariant-loop-place
invariant-loop-place l = (place : ℕ) → Contains l.places.items place ↔ (place < l.place)
