use Rattle.std.proofs.Common.{take}
use Rattle.graph_walks.specs.Searches.{Finds}
use Rattle.graph_walks.proofs.found.Found.find_all.Given as goal

abbrev pub invariant-nexts : goal.invariant-nexts
invariant-nexts l = Finds (take l.next-index l.nexts) l.fn.self l.self
