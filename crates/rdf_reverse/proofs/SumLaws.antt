-- Different trees that a graph says have together no more kids than the ontology weighs.
use Rattle.std.specs.Prelude.{◌≡◌, ◌<◌, ◌⊎◌, List, [], ◌∷◌, ◌++◌, Contains, map}
use Rattle.std.proofs.Common.{arith, inl, inr, refl, ap, sym, subst}
use Rattle.std.proofs.lemmas.List.Elements.{Contains-append_left, Contains-append_right}
use Rattle.std.proofs.lemmas.List.Sums.{sum_by-append}
use Rattle.owl_arena.specs.Shared.{heaviest}
use Rattle.owl_kind.specs.Kinds.{Entity}
use Rattle.owl_list.proofs.AscendingLaws.{ascending_holds, in_head, in_map, in_tail}
use Rattle.owl_tree.specs.Canonical.{canonical}
use Rattle.owl_tree.specs.Ontologies.{Ontology, canonical_list, ontology_weight}
use Rattle.owl_tree.specs.Order.{tree_cmp}
use Rattle.owl_tree.specs.OrderLaws.{only_equal_trees_tie, trees_total}
use Rattle.owl_tree.specs.Rows.{row_of}
use Rattle.owl_tree.specs.Trees.{Tree, kids_in, weight}
use Rattle.rdf_graph.specs.declared.triple.Triple.{Triple}
use Rattle.rdf_meaning.specs.Statements.{Says, notes}
use Rattle.rdf_statements.specs.GraphTrees.{IsTreeOf}
use Rattle.rdf_statements.proofs.PartLaws.{part_of_form}
use Rattle.rdf_statements.proofs.StatedLaws.{IsStated, all_stated, stated}
use Rattle.tree_stores.proofs.KidLaws.{in_parts_of_all, kids_weigh, parts, parts_of_all}
use Rattle.tree_stores.specs.Stores.{HaveManyKids}
use Rattle.rdf_reverse.specs.Reverse.{HasHeavyTree, of_all}
use Rattle.rdf_reverse.proofs.WithinLaws.{equal_of, form_is}

-- the set of no annotation
abbrev none : Tree
none = canonical (notes [])

none_has_none : kids_in none ≡ []
unfolding row_of
none_has_none = refl

form_in : (ts : List Tree) (t : Tree) → Contains ts t → Contains (canonical_list ts) (canonical t)
form_in ts t m = (ascending_holds tree_cmp trees_total only_equal_trees_tie (map canonical ts) (canonical t)).1 (in_map canonical ts t m)

module _ (g : List Triple) (k : List Entity) (o : Ontology) (h : Says g k o) where
  abbrev forms : List Tree
  forms = canonical_list o.annotations ++ canonical_list o.axioms

  among : (t : Tree) → Contains o.annotations t ⊎ Contains o.axioms t → Contains forms (canonical t)
  among t (inl m) = Contains-append_left (canonical_list o.annotations) (canonical_list o.axioms) (canonical t) (form_in o.annotations t m)
  among t (inr m) = Contains-append_right (canonical_list o.annotations) (canonical_list o.axioms) (canonical t) (form_in o.axioms t m)

  is_part : (t : Tree) → IsStated (stated g k o h) t → Contains (none ∷ parts_of_all forms) (canonical t)
  is_part t (inl p) =
      let is = equal_of g k o h p.whole p.inside in
      let part = subst (λ u. Contains (parts u) (canonical t)) (form_is g k o h p.whole is) (part_of_form t p.whole p.part) in
      in_tail none (parts_of_all forms) (canonical t) (in_parts_of_all forms (canonical is.tree) (canonical t) (among is.tree is.inside) part)
  is_part t (inr e) = subst (Contains (none ∷ parts_of_all forms)) (sym (ap canonical e)) (in_head none (parts_of_all forms))

  many_weigh : HaveManyKids (IsTreeOf g k h.states.header) → heaviest < ontology_weight o
  many_weigh many =
      let most = kids_weigh (IsTreeOf g k h.states.header) forms none none_has_none (λ t is. is_part t (all_stated g k o h t is)) many.trees many.apart many.each in
      let both = sum_by-append weight (canonical_list o.annotations) (canonical_list o.axioms) in
      let beyond = many.many in
      omega (arith, most, both, beyond)

  pub many_are_heavy : HaveManyKids (IsTreeOf g k h.states.header) → HasHeavyTree g k h.states.header
  many_are_heavy many = of_all o h (many_weigh many)
