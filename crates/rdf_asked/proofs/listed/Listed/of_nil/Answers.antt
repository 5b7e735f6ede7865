use Rattle.std.proofs.Common.{refl}
use Rattle.rdf_asked.proofs.KnownLists.{all_true, nil_listed}
use Rattle.rdf_asked.proofs.listed.Listed.of_nil.Goals as goal

pub returns : goal.returns
returns c g k = nil_listed g k _ (all_true _ refl refl refl refl refl refl refl refl)
