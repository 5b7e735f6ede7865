use Rattle.rdf_asked.proofs.ListedLaws.{IsWalked}
use Rattle.rdf_faults.specs.Asked.{is_key}
use Rattle.rdf_statements.proofs.Forming.{AreKeysBefore}
use Rattle.rdf_statements.proofs.keys.keys_of.Given as goal

abbrev pub invariant-loop-count : goal.invariant-loop-count
invariant-loop-count l =
    AreKeysBefore l.source.graph.now l.source.kinds.now l.source.roles.now l.list l.keys.of_objects.items l.keys.of_data.items l.rest
    × IsWalked l.source.graph.now (is_key l.source.graph.now l.source.kinds.now) l.fn.list l.count l.rest
