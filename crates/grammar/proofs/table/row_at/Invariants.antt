-- None of the rows so far is taken.
use Rattle.std.proofs.Common.{take}
use Rattle.grammar.specs.Tables.{NoneIsTaken, rows_seen}
use Rattle.grammar.proofs.table.row_at.Given as goal

abbrev pub invariant-loop-row : goal.invariant-loop-row
invariant-loop-row l = NoneIsTaken (rows_seen (take l.row-index l.rows)) l.class
