use Rattle.std.proofs.Common.{◌≡◌, ◌∙◌, List, ℕ, map, ap, subst, sym}
use Rattle.std.specs.FinMap.{nat_cmp-IsAntisymmetric}
use Rattle.std.specs.Ordering.{nat_cmp}
use Rattle.std.proofs.lemmas.Cmp.{nat_cmp_total}
use Rattle.owl_list.specs.Ascending.{HoldSame, ascending}
use Rattle.owl_list.proofs.AscendingLaws.{ascending_holds}
use Rattle.chain_ranges.proofs.search.range_classes.Goals as goal

pub returns : goal.returns
returns c =
    let all : List ℕ = map (λ (range : ℕ × ℕ). range.1) c.args.ranges.now in
    let same : c.arrange.new.items.items ≡ ascending nat_cmp all = c.arrange.ensures ∙ ap (ascending nat_cmp) c.in_ok-classes.ensures in
    subst (λ (classes : List ℕ). HoldSame classes all) (sym same) (ascending_holds nat_cmp nat_cmp_total nat_cmp-IsAntisymmetric all)
