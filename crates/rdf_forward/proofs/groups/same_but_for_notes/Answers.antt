use Rattle.rdf_forward.proofs.Bare.{same_told}
use Rattle.rdf_forward.proofs.groups.same_but_for_notes.Goals as goal

pub returns : goal.returns
returns c = same_told _ _ _ _ c.compare_bare.ensures c.eq.ensures
