use Rattle.std.proofs.Common.{◌≡◌, length}
use Rattle.profile_sorts.specs.Rows.{rows_of}
use Rattle.profile_sorts.proofs.RowLaws.{AreRowsBelow}
use Rattle.profile_sorts.proofs.rows.tag_rows.Given as goal

abbrev pub invariant-tags : goal.invariant-tags
invariant-tags l = record {
  size : length l.rows.items ≡ l.number;
  told : AreRowsBelow l.number (rows_of l.rows.items);
}
