use Rattle.std.specs.Prelude.{◌≡◌, not, take}
use Rattle.std.specs.List.{filter}
use Rattle.rdf_thin.specs.Thinned.{is_redundant}
use Rattle.rdf_thin.proofs.redundant.thin.Given as goal

abbrev pub invariant-triples : goal.invariant-triples
invariant-triples l = l.gather ≡ filter (λ t. not (is_redundant l.graph t)) (take l.triple-index l.triple-items)
