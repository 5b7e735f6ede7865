use Rattle.std.proofs.Common.{◌≡◌, length}
use Rattle.std.specs.List.{list_all}
use Rattle.rdf_meaning.specs.Nodes.{is_own}
use Rattle.ttl_levels.proofs.nestable.are_own.Given as goal

abbrev pub invariant-loop-triple : goal.invariant-loop-triple
invariant-loop-triple l = list_all (is_own l.role) l.triples ≡ list_all (is_own l.role) l.rest

abbrev pub decreases-loop-triple : goal.decreases-loop-triple
decreases-loop-triple l = length l.rest
