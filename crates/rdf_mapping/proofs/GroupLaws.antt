-- Axioms that differ in their annotations alone are one group.
use Rattle.std.proofs.Common.{◌≡◌, true, List, refl, ap, ◌∙◌}
use Rattle.std.specs.Prelude.{Contains, map}
use Rattle.std.specs.List.{filter}
use Rattle.std.specs.declared.cmp.Ordering.{Ordering}
use Rattle.std.specs.declared.cmp.Ordering.TheVariants.{Less, Equal, Greater}
use Rattle.std.specs.Ordering.{eq_by_cmp, is_eq}
use Rattle.std.proofs.lemmas.Cmp.{tied_itself}
use Rattle.owl_list.proofs.AscendingLaws.{ascending_holds, from_map, in_map}
use Rattle.owl_tree.specs.Order.{tree_cmp}
use Rattle.owl_tree.specs.OrderLaws.{only_equal_trees_tie, trees_total}
use Rattle.owl_tree.specs.Trees.{Tree}
use Rattle.owl_list.proofs.FilterLaws.{from_filter, in_filter}
use Rattle.rdf_mapping.specs.Notes.{Notes}
use Rattle.rdf_mapping.specs.Graphs.{Group, axiom_notes, bare, bare_axioms, group_of, groups_of, sets_of}

tie : (o : Ordering) → is_eq o ≡ true → o ≡ Equal
tie Equal h = refl
tie Less h = cc
tie Greater h = cc

pub axiom_in_group : (axioms : List Tree) (a : Tree) → Contains axioms a → Contains (groups_of axioms) (group_of axioms (bare a)) × Contains (sets_of (bare a) axioms) (axiom_notes a)
axiom_in_group axioms a m =
    let same = ap is_eq (tied_itself trees_total (bare a)) in (
      in_map (group_of axioms) (bare_axioms axioms) (bare a) ((ascending_holds tree_cmp trees_total only_equal_trees_tie (map bare axioms) (bare a)).1 (in_map bare axioms a m)),
      in_map axiom_notes (filter (λ c. eq_by_cmp tree_cmp (bare c) (bare a)) axioms) a (in_filter (λ c. eq_by_cmp tree_cmp (bare c) (bare a)) axioms a m same),
    )

pub group_of_axiom : (axioms : List Tree) (g : Group) → Contains (groups_of axioms) g → (a : Tree) × Contains axioms a × (group_of axioms (bare a) ≡ g)
group_of_axiom axioms g m =
    let v = from_map (group_of axioms) (bare_axioms axioms) g m in
    let u = from_map bare axioms v.element ((ascending_holds tree_cmp trees_total only_equal_trees_tie (map bare axioms) v.element).0 v.inside) in
    (u.element, u.inside, ap (group_of axioms) u.value ∙ v.value)

pub set_of_axiom : (axioms : List Tree) (b : Tree) (ns : Notes) → Contains (sets_of b axioms) ns → (a : Tree) × Contains axioms a × (bare a ≡ b) × (axiom_notes a ≡ ns)
set_of_axiom axioms b ns m =
    let v = from_map axiom_notes (filter (λ a. eq_by_cmp tree_cmp (bare a) b) axioms) ns m in
    let k = from_filter (λ a. eq_by_cmp tree_cmp (bare a) b) axioms v.element v.inside in
    (v.element, k.inside, only_equal_trees_tie (bare v.element) b (tie (tree_cmp (bare v.element) b) k.passes), v.value)
