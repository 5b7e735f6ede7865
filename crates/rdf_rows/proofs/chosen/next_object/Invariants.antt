use Rattle.std.proofs.Common.{◌≡◌, [], take}
use Rattle.rdf_rows.specs.Chosen.{carriers}
use Rattle.rdf_rows.proofs.chosen.next_object.Given as goal

abbrev pub invariant-loop-place : goal.invariant-loop-place
invariant-loop-place l = carriers l.word (take l.place l.triples) ≡ []
