use Rattle.std.proofs.Common.{◌≤◌, length}
use Rattle.owl_doc.specs.Marks.{AddsParts, IsClosedFrom}
use Rattle.owl_doc.proofs.counts.mark_below.Given as goal

abbrev pub invariant-places : goal.invariant-places
invariant-places l = record {
  within : l.place ≤ length l.arena.trees;
  added : AddsParts l.arena.trees l.fn.marks l.marks;
  closed : IsClosedFrom l.place l.arena.trees l.marks;
}

abbrev pub decreases-places : goal.decreases-places
decreases-places l = l.place
