use Rattle.owl_tree.proofs.CanonicalLaws.{canonical_again, canonical_ascends, canonical_depth, canonical_equivalent, canonical_node, canonical_tag, canonical_weight, only_canonical}
use Rattle.owl_tree.proofs.ShapeLaws.{canonical_shape}
use Rattle.owl_tree.proofs.laws.canonical_forms.Goals as goal

pub returns-clause-equivalent : goal.returns-clause-equivalent
returns-clause-equivalent c = canonical_equivalent

pub returns-clause-ascends : goal.returns-clause-ascends
returns-clause-ascends c = canonical_ascends

pub returns-clause-only : goal.returns-clause-only
returns-clause-only c = only_canonical

pub returns-clause-again : goal.returns-clause-again
returns-clause-again c = canonical_again

pub returns-clause-tag : goal.returns-clause-tag
returns-clause-tag c = canonical_tag

pub returns-clause-depth : goal.returns-clause-depth
returns-clause-depth c = canonical_depth

pub returns-clause-weight : goal.returns-clause-weight
returns-clause-weight c = canonical_weight

pub returns-clause-shape : goal.returns-clause-shape
returns-clause-shape c = canonical_shape

pub returns-clause-node : goal.returns-clause-node
returns-clause-node c = canonical_node
