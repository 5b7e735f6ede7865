use Rattle.std.proofs.Common.{◌↔◌, List, length}
use Rattle.std.specs.List.{AllByRecursion}
use Rattle.rdf_graph.specs.declared.term.Term.{Term}
use Rattle.rdf_graph.specs.declared.triple.Triple.{Triple}
use Rattle.rdf_meaning.specs.declared.role.Role.{Role}
use Rattle.rdf_faults.specs.Formed.{HasFormAt}
use Rattle.rdf_roles.specs.Lengths.{IsSeen}
use Rattle.rdf_roles.proofs.rows.are_formed.Given as goal

abbrev pub invariant-loop-part : goal.invariant-loop-part
invariant-loop-part l = (g : List Triple) (x : Term) (r : Role) → IsSeen g x l.table.entries l.lengths r l.triples → AllByRecursion (HasFormAt g x) l.rest ↔ AllByRecursion (HasFormAt g x) l.fn.parts

abbrev pub decreases-loop-part : goal.decreases-loop-part
decreases-loop-part l = length l.rest
