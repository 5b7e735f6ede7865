use Rattle.std.proofs.Common.{◌≡◌, take}
use Rattle.rdf_rows.specs.Roles.{roles_in}
use Rattle.rdf_rows.proofs.Marking.{made_of}
use Rattle.rdf_rows.proofs.roles.Marked.of.Given as goal

abbrev pub invariant-loop-triple : goal.invariant-loop-triple
invariant-loop-triple l = l.marked ≡ made_of (roles_in (take l.triple-index l.triples))
