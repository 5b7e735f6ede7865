-- A graph that says an ontology within the limits says nothing that passes one.
use Rattle.std.specs.Prelude.{◌≡◌, ◌≤◌, ◌⊎◌, List, [], ◌++◌, Contains, map}
use Rattle.std.proofs.Common.{arith, inl, inr, refl, ap, sym, subst, ◌∙◌}
use Rattle.std.proofs.lemmas.List.Elements.{Contains-append_cases, Contains-append_left, Contains-append_right}
use Rattle.std.proofs.lemmas.List.Sums.{get_or-le-sum_by}
use Rattle.owl_arena.specs.Shared.{deepest, heaviest}
use Rattle.owl_kind.specs.Kinds.{Entity}
use Rattle.owl_list.proofs.AscendingLaws.{all_in, ascending_holds, in_map}
use Rattle.owl_tree.specs.Canonical.{canonical}
use Rattle.owl_tree.proofs.CanonicalLaws.{equivalent_depth}
use Rattle.owl_tree.specs.Equivalence.{IsEquivalent}
use Rattle.owl_tree.proofs.EquivalenceLaws.{equivalent_is_equal_form}
use Rattle.owl_tree.specs.Ontologies.{IsAnnotation, IsAxiom, Ontology, canonical_list, list_weight, ontology_weight}
use Rattle.owl_tree.proofs.OntologyLaws.{same_ontology_weight}
use Rattle.owl_tree.specs.Order.{tree_cmp}
use Rattle.owl_tree.specs.OrderLaws.{only_equal_trees_tie, trees_total}
use Rattle.owl_tree.specs.Rows.{row_of}
use Rattle.owl_tree.specs.Shape.{IsShaped}
use Rattle.owl_tree.proofs.ShapeLaws.{canonical_shape}
use Rattle.owl_tree.specs.Trees.{Tree, depth, weight}
use Rattle.rdf_graph.specs.declared.triple.Triple.{Triple}
use Rattle.rdf_meaning.proofs.StatementLaws.{one_ontology}
use Rattle.rdf_meaning.specs.Statements.{Says, notes}
use Rattle.rdf_statements.proofs.PartLaws.{part_depth, part_weight}
use Rattle.rdf_statements.proofs.StatedLaws.{IsStated, all_stated, no_large_number, stated}
use Rattle.rdf_reverse.specs.Reverse.{HasDeepTree, HasHeavyTree, IsSaid, IsWithin, of_all, of_tree}

empty_depth : depth (notes []) ≡ 1
empty_depth = refl

empty_weight : weight (canonical (notes [])) ≡ 1
unfolding row_of
empty_weight = refl

-- what is in a list weighs no more than the list, once forms stand for trees
form_weight : (ts : List Tree) (t : Tree) → Contains ts t → weight (canonical t) ≤ list_weight ts
form_weight ts t m =
    let inside = (ascending_holds tree_cmp trees_total only_equal_trees_tie (map canonical ts) (canonical t)).1 (in_map canonical ts t m) in
    let most = get_or-le-sum_by weight (canonical_list ts) inside.0 (canonical t) inside.1 in
    let same = ap weight inside.2 in
    omega (arith, most, same)

module _ (g : List Triple) (k : List Entity) (o : Ontology) (h : Says g k o) where
  -- the ontology has a tree that is equivalent to each that the graph states
  pub record HasEqual (t : Tree) : Type 0 where
    pub tree : Tree
    pub inside : Contains o.annotations tree ⊎ Contains o.axioms tree
    pub same : IsEquivalent t tree

  pub equal_of : (t : Tree) → Contains (stated g k o h) t → HasEqual t
  equal_of t m =
      elim (Contains-append_cases h.states.notes_in (h.states.by_triples ++ h.states.by_nodes) t m) [
        | inl n ↦ let u = h.states.annotations.back t n in record { tree = u.0; inside = inl u.1; same = u.2 }
        | inr n ↦ let u = h.states.axioms.back t n in record { tree = u.0; inside = inr u.1; same = u.2 }
      ]

  pub form_is : (t : Tree) (is : HasEqual t) → canonical t ≡ canonical is.tree
  form_is t is = (equivalent_is_equal_form t is.tree).0 is.same

  module _ (within : IsWithin o) where
    its_shape : (t : Tree) → Contains o.annotations t ⊎ Contains o.axioms t → IsShaped t
    its_shape t (inl m) = (all_in IsAnnotation o.annotations t within.is.annotations m).shaped
    its_shape t (inr m) = (all_in IsAxiom o.axioms t within.is.axioms m).shaped

    its_depth : (t : Tree) → Contains o.annotations t ⊎ Contains o.axioms t → depth t ≤ deepest
    its_depth t (inl m) = all_in (λ u. depth u ≤ deepest) (o.annotations ++ o.axioms) t within.shallow (Contains-append_left o.annotations o.axioms t m)
    its_depth t (inr m) = all_in (λ u. depth u ≤ deepest) (o.annotations ++ o.axioms) t within.shallow (Contains-append_right o.annotations o.axioms t m)

    its_weight : (t : Tree) → Contains o.annotations t ⊎ Contains o.axioms t → weight (canonical t) ≤ ontology_weight o
    its_weight t (inl m) = let most = form_weight o.annotations t m in omega (arith, most)
    its_weight t (inr m) = let most = form_weight o.axioms t m in omega (arith, most)

    shaped : (t : Tree) → Contains (stated g k o h) t → IsShaped t
    shaped t m =
        let is = equal_of t m in
        (canonical_shape t).1 (subst IsShaped (sym (form_is t is)) ((canonical_shape is.tree).0 (its_shape is.tree is.inside)))

    stated_depth : (t : Tree) → IsStated (stated g k o h) t → depth t ≤ deepest
    stated_depth t (inl p) =
        let is = equal_of p.whole p.inside in
        let part = part_depth t p.whole p.part in
        let same = equivalent_depth p.whole is.tree is.same in
        let most = its_depth is.tree is.inside in
        omega (arith, part, same, most)
    stated_depth t (inr e) = let one = ap depth e ∙ empty_depth in omega (arith, one)

    stated_weight : (t : Tree) → IsStated (stated g k o h) t → weight (canonical t) ≤ heaviest
    stated_weight t (inl p) =
        let is = equal_of p.whole p.inside in
        let part = part_weight t p.whole p.part in
        let same = ap weight (form_is p.whole is) in
        let most = its_weight is.tree is.inside in
        let all = within.light in
        omega (arith, part, same, most, all)
    stated_weight t (inr e) = let one = ap (λ u. weight (canonical u)) e ∙ empty_weight in omega (arith, one)

    no_deep : HasDeepTree g k h.states.header → ⊥
    no_deep bad = let most = stated_depth bad.tree (all_stated g k o h bad.tree bad.of) in let deep = bad.deep in omega (arith, most, deep)

    no_heavy : HasHeavyTree g k h.states.header → ⊥
    no_heavy (of_tree t is heavy) = let most = stated_weight t (all_stated g k o h t is) in omega (arith, most, heavy)
    no_heavy (of_all p says heavy) =
        let same = same_ontology_weight o p (one_ontology g k o p h says) in
        let most = within.light in
        omega (arith, same, most, heavy)

    pub said_within : IsSaid g k o
    said_within = record { says = h; small = no_large_number g k o h shaped; shallow = no_deep; light = no_heavy }
