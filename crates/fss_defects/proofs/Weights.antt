-- An ontology that is too heavy stays so.
use Rattle.std.proofs.Common.{◌≡◌, inl, inr, ap, arith, ◌<◌, ◌≤◌, List, [], ◌∷◌, ◌++◌, map, subst, sym}
use Rattle.std.specs.Prelude.{Contains}
use Rattle.std.specs.declared.cmp.Ordering.{Ordering}
use Rattle.std.specs.declared.cmp.Ordering.TheVariants.{Less, Equal, Greater}
use Rattle.std.specs.List.{sum_by}
use Rattle.std.proofs.lemmas.List.Elements.{Contains-append_cases, Contains-append_left, Contains-append_right}
use Rattle.std.proofs.lemmas.List.Sums.{sum_by-cons}
use Rattle.owl_arena.specs.Shared.{heaviest}
use Rattle.owl_list.specs.Ascending.{HoldSame, by_order, put}
use Rattle.owl_list.proofs.AscendingLaws.{ascending_same, same_map}
use Rattle.owl_tree.specs.Canonical.{canonical}
use Rattle.owl_tree.specs.Ontologies.{canonical_list, list_weight, ontology_weight}
use Rattle.owl_tree.specs.Order.{tree_cmp}
use Rattle.owl_tree.specs.OrderLaws.{only_equal_trees_tie, trees_total}
use Rattle.owl_tree.specs.Trees.{Tree, weight}
use Rattle.fss_grammar.specs.Making.{Maker}
use Rattle.fss_defects.proofs.Courses.{StepKeeps}
use Rattle.fss_defects.proofs.Growths.{Extends, acts_grow}

-- more trees weigh no less
put_more_by : (o : Ordering) (t u : Tree) (us rest : List Tree) → sum_by weight us ≤ sum_by weight rest → sum_by weight (u ∷ us) ≤ sum_by weight (by_order o (t ∷ u ∷ us) (u ∷ us) (u ∷ rest))
put_more_by Less t u us rest h = let a = sum_by-cons weight t (u ∷ us) in omega (arith, a)
put_more_by Equal t u us rest h = omega arith
put_more_by Greater t u us rest h = let a = sum_by-cons weight u us in let b = sum_by-cons weight u rest in omega (arith, a, b, h)

put_more : (t : Tree) (us : List Tree) → sum_by weight us ≤ sum_by weight (put tree_cmp t us)
put_more t [] = let a = sum_by-cons weight t [] in omega (arith, a)
put_more t (u ∷ us) = put_more_by (tree_cmp t u) t u us (put tree_cmp t us) (put_more t us)

behind_others : (ts us : List Tree) → list_weight ts ≤ list_weight (us ++ ts)
behind_others ts [] = omega arith
behind_others ts (u ∷ us) =
    let first = put_more (canonical u) (canonical_list (us ++ ts)) in
    let rest = behind_others ts us in
    omega (arith, first, rest)

turned_in : (ts us : List Tree) (t : Tree) → Contains (ts ++ us) t → Contains (us ++ ts) t
turned_in ts us t m = elim (Contains-append_cases ts us t m) [
  | inl k ↦ Contains-append_right us ts t k
  | inr k ↦ Contains-append_left us ts t k
]

same_turned : (ts us : List Tree) → list_weight (ts ++ us) ≡ list_weight (us ++ ts)
same_turned ts us =
    let same : HoldSame (ts ++ us) (us ++ ts) = λ t. (turned_in ts us t, turned_in us ts t) in
    ap (λ (vs : List Tree). sum_by weight vs)
    (ascending_same tree_cmp trees_total only_equal_trees_tie (map canonical (ts ++ us)) (map canonical (us ++ ts)) (same_map canonical (ts ++ us) (us ++ ts) same))

before_others : (ts us : List Tree) → list_weight ts ≤ list_weight (ts ++ us)
before_others ts us = let a = behind_others ts us in let b = same_turned ts us in omega (arith, a, b)

weighs_more : (ts us : List Tree) → Extends ts us → list_weight ts ≤ list_weight us
weighs_more ts us it = subst (λ (l : List Tree). list_weight ts ≤ list_weight l) (sym it.1) (before_others ts it.0)

abbrev pub IsTooHeavy : Maker → Type 0
IsTooHeavy m = heaviest < ontology_weight m.document.ontology

pub too_heavy_stays : StepKeeps IsTooHeavy
too_heavy_stays p act next m n ready h heavy =
    let grow = acts_grow p act next m n h in
    let a = weighs_more _ _ grow.annotations in
    let b = weighs_more _ _ grow.axioms in
    omega (arith, a, b, heavy)
