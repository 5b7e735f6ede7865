use Rattle.std.proofs.Common.{◌≡◌, length}
use Rattle.profile_sorts.proofs.RowLaws.{TellsBelow}
use Rattle.profile_sorts.proofs.rows.tag_row.Given as goal

abbrev pub invariant-sorts : goal.invariant-sorts
invariant-sorts l = record {
  size : length l.row.items ≡ l.number;
  told : TellsBelow l.number l.tag l.row.items;
}
