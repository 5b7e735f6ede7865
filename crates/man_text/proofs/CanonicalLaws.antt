-- Trees of a list that stays as it is in canonical form.
use Rattle.std.proofs.Common.{◌≡◌, List, map, sym, ap, ◌∙◌, subst}
use Rattle.std.specs.Prelude.{Contains}
use Rattle.std.specs.List.{AllByRecursion}
use Rattle.owl_list.proofs.AscendingLaws.{all_from, ascending_holds, from_map}
use Rattle.owl_tree.specs.Canonical.{canonical}
use Rattle.owl_tree.specs.Ontologies.{canonical_list}
use Rattle.owl_tree.specs.Order.{tree_cmp}
use Rattle.owl_tree.specs.OrderLaws.{only_equal_trees_tie, trees_total}
use Rattle.owl_tree.specs.Trees.{Tree}
use Rattle.owl_tree.proofs.CanonicalLaws.{canonical_again}

pub each_canonical : (ts : List Tree) → canonical_list ts ≡ ts → AllByRecursion (λ t. canonical t ≡ t) ts
each_canonical ts e = all_from (λ t. canonical t ≡ t) ts (λ t m.
    let there = (ascending_holds tree_cmp trees_total only_equal_trees_tie (map canonical ts) t).0 (subst (λ (us : List Tree). Contains us t) (sym e) m) in
    let value = from_map canonical ts t there in
    ap canonical (sym value.value) ∙ canonical_again value.element ∙ value.value)
