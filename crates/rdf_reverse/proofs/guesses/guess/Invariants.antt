use Rattle.std.specs.Prelude.{◌≡◌, take}
use Rattle.rdf_reverse.proofs.GuessingLaws.{found}
use Rattle.rdf_reverse.proofs.guesses.guess.Given as goal

abbrev pub invariant-triples : goal.invariant-triples
invariant-triples l = l.names.items ≡ found l.kinds (take l.triple-index l.triple-items)
