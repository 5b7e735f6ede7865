use Rattle.std.specs.Prelude.{take}
use Rattle.std.specs.List.{AllByRecursion}
use Rattle.rdf_meaning.specs.Rows.{row_seen}
use Rattle.rdf_asked.specs.Asking.{IsSuited}
use Rattle.rdf_asked.proofs.asked.has_suited_row.Given as goal

abbrev pub invariant-loop-row : goal.invariant-loop-row
invariant-loop-row l = AllByRecursion (λ row. IsSuited l.source.graph.now l.source.kinds.now l.triple (row_seen row) → ⊥) (take l.row-index l.rows)
