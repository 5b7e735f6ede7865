use Rattle.owl_tree.specs.OrderLaws.{same_tag}
use Rattle.owl_canon.proofs.documents.is_annotation.Goals as goal

pub returns : goal.returns
returns c = rw (c.eq.ensures, ← c.tag.ensures) (same_tag c.tag.result _)
