use Rattle.std.proofs.Common.{◌≡◌, drop}
use Rattle.owl_tree.specs.Places.{admits_from}
use Rattle.owl_tree.specs.Rows.{row_seen}
use Rattle.owl_tree.proofs.tag.Tag.fits.Given as goal

abbrev pub invariant-loop-place : goal.invariant-loop-place
invariant-loop-place l = admits_from (row_seen l.row) 0 l.kids ≡ admits_from (row_seen l.row) l.place (drop l.place l.kids)
