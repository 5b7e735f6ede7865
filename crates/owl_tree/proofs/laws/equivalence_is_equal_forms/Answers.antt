use Rattle.owl_tree.proofs.CanonicalLaws.{equivalent_depth, equivalent_tag}
use Rattle.owl_tree.proofs.EquivalenceLaws.{equivalent_is_equal_form, equivalent_refl, equivalent_sym, equivalent_trans}
use Rattle.owl_tree.proofs.ShapeLaws.{equivalent_shape}
use Rattle.owl_tree.proofs.laws.equivalence_is_equal_forms.Goals as goal

pub returns-clause-forms : goal.returns-clause-forms
returns-clause-forms c = equivalent_is_equal_form

pub returns-clause-reflexive : goal.returns-clause-reflexive
returns-clause-reflexive c = equivalent_refl

pub returns-clause-symmetric : goal.returns-clause-symmetric
returns-clause-symmetric c = equivalent_sym

pub returns-clause-transitive : goal.returns-clause-transitive
returns-clause-transitive c = equivalent_trans

pub returns-clause-tag : goal.returns-clause-tag
returns-clause-tag c = equivalent_tag

pub returns-clause-depth : goal.returns-clause-depth
returns-clause-depth c = equivalent_depth

pub returns-clause-shape : goal.returns-clause-shape
returns-clause-shape c = equivalent_shape
