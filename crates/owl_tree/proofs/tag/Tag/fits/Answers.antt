use Rattle.std.proofs.Common.{sym, ◌∙◌, arith}
use Rattle.owl_tree.proofs.PlacesLaws.{fits_by_place, misplaced}
use Rattle.owl_tree.proofs.tag.Tag.fits.Goals as goal

pub returns-then-not-admits : goal.returns-then-not-admits
returns-then-not-admits c = grind (arith, fits_by_place, misplaced _ _ _ _ c.loop-place-test.true (sym c.if-not-admits.true ∙ c.admits.ensures))
