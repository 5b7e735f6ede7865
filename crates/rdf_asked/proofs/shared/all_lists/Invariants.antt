use Rattle.rdf_asked.specs.Listed.{AreKnownLists}
use Rattle.rdf_asked.proofs.shared.all_lists.Given as goal

abbrev pub invariant-loop-number : goal.invariant-loop-number
invariant-loop-number l = AreKnownLists l.graph l.kinds l.lists.items
