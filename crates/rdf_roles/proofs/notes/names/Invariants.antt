use Rattle.std.proofs.Common.{◌≡◌, length}
use Rattle.std.specs.List.{list_any}
use Rattle.rdf_meaning.specs.Nodes.{is_same}
use Rattle.rdf_rows.specs.Chosen.{objects_with}
use Rattle.rdf_roles.proofs.notes.names.Given as goal

abbrev pub invariant-loop-object : goal.invariant-loop-object
invariant-loop-object l = list_any (is_same l.term) (objects_with l.word l.rest) ≡ list_any (is_same l.term) (objects_with l.word l.fn.triples)

abbrev pub decreases-loop-object : goal.decreases-loop-object
decreases-loop-object l = length l.rest
