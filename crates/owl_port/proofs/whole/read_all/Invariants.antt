use Rattle.std.proofs.Common.{◌≡◌, ◌≤◌, ◌+◌, ◌-◌, [], None, length, IsTrue}
use Rattle.owl_port.specs.Outside.{SameElsewhere, before}
use Rattle.owl_port.proofs.whole.read_all.Given as goal

abbrev pub invariant-loop-buffer : goal.invariant-loop-buffer
invariant-loop-buffer g l = record {
  most : l.most ≡ l.limit + 1;
  within : length l.all.items ≤ l.most;
  told : g.S.Shelf.tells l.shelf ≡ g.S.Shelf.tells l.fn.shelf;
  taken : IsTrue (g.S.Shelf.tells l.fn.shelf) → g.S.Shelf.left l.fn.shelf l.name ≡ before l.all.items (g.S.Shelf.left l.shelf l.name);
  lacks : IsTrue (g.S.Shelf.tells l.fn.shelf) → g.S.Shelf.left l.shelf l.name ≡ None → l.all.items ≡ [];
  faults : g.S.Shelf.faults l.fn.shelf l.name ≤ g.S.Shelf.faults l.shelf l.name;
  others : IsTrue (g.S.Shelf.tells l.fn.shelf) → SameElsewhere l.name (g.S.Shelf.left l.fn.shelf) (g.S.Shelf.left l.shelf);
  counts : SameElsewhere l.name (g.S.Shelf.faults l.fn.shelf) (g.S.Shelf.faults l.shelf);
}

abbrev pub decreases-loop-buffer : goal.decreases-loop-buffer
decreases-loop-buffer g l = l.most - length l.all.items
