use Rattle.owl_canon.proofs.Unambiguous.{no_beginning}
use Rattle.owl_canon.proofs.laws.no_tree_begins_another.Goals as goal

pub returns : goal.returns
returns c = no_beginning
