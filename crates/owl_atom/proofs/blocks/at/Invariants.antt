use Rattle.std.proofs.Common.{◌≡◌, ◌<◌, length}
use Rattle.std.specs.Prelude.{slice_get}
use Rattle.owl_atom.specs.Blocks.{flat}
use Rattle.owl_atom.proofs.blocks.at.Given as goal

abbrev pub invariant-loop-place : goal.invariant-loop-place
invariant-loop-place l = (l.place < length (flat l.blocks)) × (slice_get (flat l.blocks) l.place ≡ slice_get (flat l.fn.blocks) l.fn.place)

abbrev pub decreases-loop-place : goal.decreases-loop-place
decreases-loop-place l = length l.blocks
