use Rattle.std.proofs.Common.{◌≡◌, [], List, length, not}
use Rattle.std.specs.List.{filter}
use Rattle.rdf_graph.specs.declared.triple.Triple.{Triple}
use Rattle.rdf_meaning.specs.Nodes.{is_structural}
use Rattle.rdf_roles.specs.Tables.{IsTableOf}
use Rattle.rdf_statements.proofs.bare.are_structural.Given as goal

abbrev pub invariant-loop-triple : goal.invariant-loop-triple
invariant-loop-triple l =
    (g : List Triple) → IsTableOf g l.roles → filter (λ t. not (is_structural g t)) l.rest ≡ [] → filter (λ t. not (is_structural g t)) l.fn.triples ≡ []

abbrev pub decreases-loop-triple : goal.decreases-loop-triple
decreases-loop-triple l = length l.rest
