use Rattle.std.proofs.Common.{◌↔◌, List, length}
use Rattle.std.specs.Prelude.{map}
use Rattle.rdf_graph.specs.declared.term.Term.{Term}
use Rattle.rdf_graph.specs.declared.triple.Triple.{Triple}
use Rattle.rdf_meaning.specs.Rows.{row_seen}
use Rattle.rdf_faults.specs.Formed.{HasFormedRow}
use Rattle.rdf_roles.specs.Lengths.{IsSeen}
use Rattle.rdf_roles.proofs.rows.has_formed_row.Given as goal

abbrev pub invariant-loop-row : goal.invariant-loop-row
invariant-loop-row l = (g : List Triple) (x : Term) → IsSeen g x l.table.entries l.lengths l.role l.triples → HasFormedRow g (map row_seen l.rest) x ↔ HasFormedRow g (map row_seen l.fn.rows) x

abbrev pub decreases-loop-row : goal.decreases-loop-row
decreases-loop-row l = length l.rest
