use Rattle.std.proofs.Common.{◌≡◌, ◌≤◌, ◌+◌, ◌-◌, ℕ, Option, None, List, [], length, IsTrue}
use Rattle.owl_port.specs.Outside.{SameElsewhere, before}
use Rattle.owl_documents.proofs.reading.feed_document.Given as goal

-- a front of the bytes was fed
abbrev pub invariant-loop-size : goal.invariant-loop-size
invariant-loop-size g l = record {
  most : l.most ≡ l.room + 1;
  within : l.size ≤ l.most;
  fed : List ℕ;
  counted : l.size ≡ length fed;
  read : (base : Option (List ℕ)) → g.R.DocumentReader.Fed base l.fn.reader [] → g.R.DocumentReader.Fed base l.reader fed;
  told : g.S.Shelf.tells l.shelf ≡ g.S.Shelf.tells l.fn.shelf;
  taken : IsTrue (g.S.Shelf.tells l.fn.shelf) → g.S.Shelf.left l.fn.shelf l.name ≡ before fed (g.S.Shelf.left l.shelf l.name);
  lacks : IsTrue (g.S.Shelf.tells l.fn.shelf) → g.S.Shelf.left l.shelf l.name ≡ None → fed ≡ [];
  faults : g.S.Shelf.faults l.fn.shelf l.name ≤ g.S.Shelf.faults l.shelf l.name;
  others : IsTrue (g.S.Shelf.tells l.fn.shelf) → SameElsewhere l.name (g.S.Shelf.left l.fn.shelf) (g.S.Shelf.left l.shelf);
  counts : SameElsewhere l.name (g.S.Shelf.faults l.fn.shelf) (g.S.Shelf.faults l.shelf);
}

abbrev pub decreases-loop-size : goal.decreases-loop-size
decreases-loop-size g l = l.most - l.size
