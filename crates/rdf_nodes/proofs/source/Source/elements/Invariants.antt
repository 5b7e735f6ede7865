use Rattle.rdf_faults.specs.Asked.{is_of_sort}
use Rattle.rdf_asked.proofs.ListedLaws.{IsWalked}
use Rattle.rdf_nodes.proofs.Denoting.{IsListed}
use Rattle.rdf_nodes.proofs.Steps.{AreElementsBefore}
use Rattle.rdf_nodes.proofs.source.Source.elements.Given as goal

abbrev pub invariant-loop-count : goal.invariant-loop-count
invariant-loop-count l =
    AreElementsBefore l.self.graph.now l.self.kinds.now l.self.roles.now l.sort l.list l.operands.items l.rest
    × IsWalked l.self.graph.now (is_of_sort l.self.graph.now l.self.kinds.now l.sort) l.fn.list l.count l.rest
    × (IsListed l.self.graph.now l.self.kinds.now l.sort l.fn.list → IsListed l.self.graph.now l.self.kinds.now l.sort l.rest)
