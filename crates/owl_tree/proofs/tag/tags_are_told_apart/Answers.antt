use Rattle.owl_tree.specs.OrderLaws.{same_number}
use Rattle.owl_tree.proofs.Keywords.{axioms_numbered, same_keyword}
use Rattle.owl_tree.proofs.tag.tags_are_told_apart.Goals as goal

pub returns : goal.returns
returns c = record { numbers = same_number; keywords = same_keyword; axioms = axioms_numbered }
