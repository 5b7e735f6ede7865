use Rattle.std.proofs.Common.{◌≡◌, length}
use Rattle.breach_lists.proofs.Marking.{AreMarksBefore}
use Rattle.breach_lists.proofs.marks.marks_by_number.Given as goal

abbrev pub invariant-places : goal.invariant-places
invariant-places l = record {
  size : length l.by_number.items ≡ l.count;
  told : AreMarksBefore l.place l.axioms l.marks l.by_number.items;
}
