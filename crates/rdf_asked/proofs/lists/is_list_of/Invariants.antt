use Rattle.rdf_asked.specs.Elements.{is_element}
use Rattle.rdf_asked.proofs.ListedLaws.{IsWalked}
use Rattle.rdf_asked.proofs.lists.is_list_of.Given as goal

abbrev pub invariant-loop-count : goal.invariant-loop-count
invariant-loop-count l = IsWalked l.source.graph.now (is_element l.source.graph.now l.source.kinds.now l.element) l.fn.term l.count l.rest
