use Rattle.std.proofs.Common.{◌≡◌, subst}
use Rattle.std.specs.declared.cmp.Ordering.TheVariants.{Equal}
use Rattle.std.proofs.lemmas.Cmp.{tied_itself}
use Rattle.owl_tree.specs.Order.{tree_cmp}
use Rattle.owl_tree.specs.OrderLaws.{only_equal_trees_tie, trees_total}
use Rattle.owl_tree.specs.Trees.{Tree}
use Rattle.owl_tree.proofs.laws.trees_are_ordered.Goals as goal

pub returns-clause-total : goal.returns-clause-total
returns-clause-total c = trees_total

pub returns-clause-equal : goal.returns-clause-equal
returns-clause-equal c = λ a b. (
  only_equal_trees_tie a b,
  λ e. subst (λ (t : Tree). tree_cmp a t ≡ Equal) e (tied_itself trees_total a),
)
