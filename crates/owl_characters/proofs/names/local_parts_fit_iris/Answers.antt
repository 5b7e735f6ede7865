use Rattle.owl_characters.proofs.NameCharacterLaws.{local_fits}
use Rattle.owl_characters.proofs.names.local_parts_fit_iris.Goals as goal

pub returns : goal.returns
returns c = local_fits
