use Rattle.std.proofs.Common.{subst, sym}
use Rattle.std.specs.Ordering.{nat_cmp}
use Rattle.std.proofs.lemmas.Cmp.{nat_cmp_total}
use Rattle.owl_list.specs.Ascending.{IsAscending}
use Rattle.owl_list.proofs.AscendingLaws.{ascending_ascends}
use Rattle.blank_labels.proofs.fresh.LabelNumbers.fresh_labels.Goals as goal

pub invariant_of-result : goal.invariant_of-result
invariant_of-result c = subst (IsAscending nat_cmp) (sym c.arrange.ensures) (ascending_ascends nat_cmp nat_cmp_total c.self.inside.far.items)
