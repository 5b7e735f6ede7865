use Rattle.std.proofs.Common.{length}
use Rattle.rdf_forward.proofs.notes.+has_notes.Given as goal

abbrev pub decreases-has_notes : goal.decreases-has_notes
decreases-has_notes l = length l.ids.now
