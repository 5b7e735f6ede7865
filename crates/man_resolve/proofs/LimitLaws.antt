-- What stands in an arena is the ontology that was made, and a limit is passed where a store tells it.
use Rattle.std.proofs.Common.{◌≡◌, ◌<◌, ◌≤◌, ℕ, List, [], ◌∷◌, ◌++◌, inl, inr, refl, sym, ap, ◌∙◌, subst, arith}
use Rattle.std.specs.Prelude.{Contains, IsTrue, map}
use Rattle.std.specs.List.{AllByRecursion, sum_by}
use Rattle.std.proofs.lemmas.List.Elements.{Contains-append_cases}
use Rattle.std.proofs.lemmas.List.Sums.{sum_by-cons}
use Rattle.std.proofs.lemmas.Option.{get_or_from_slice_get}
use Rattle.man_raw.specs.Documents.{HeadTree}
use Rattle.owl_arena.specs.Held.{AreHeld, tree_at, trees_at}
use Rattle.owl_arena.specs.Shared.{deepest, heaviest}
use Rattle.owl_assembly.specs.Filling.{AreAnnotations, AreAxioms}
use Rattle.owl_list.specs.Ascending.{ascending}
use Rattle.owl_list.proofs.AscendingLaws.{ascending_holds, hold_same, in_cases, in_map, in_none}
use Rattle.owl_tree.specs.declared.tag.Tag.TheVariants as tag
use Rattle.owl_tree.specs.Canonical.{canonical}
use Rattle.owl_tree.proofs.CanonicalLaws.{canonical_tag, forms_again}
use Rattle.owl_tree.specs.Equivalence.{HoldsOfSome}
use Rattle.owl_tree.specs.Ontologies.{HoldEquivalent, IsSameOntology, Ontology, canonical_list, canonical_ontology, list_weight, ontology_weight}
use Rattle.owl_tree.proofs.OntologyLaws.{canonical_same_ontology, equivalent_lists, same_ontology_trans, same_ontology_weight}
use Rattle.owl_tree.specs.Order.{tree_cmp}
use Rattle.owl_tree.specs.OrderLaws.{only_equal_trees_tie, trees_total}
use Rattle.owl_tree.specs.Tags.{is_axiom}
use Rattle.owl_tree.specs.Trees.{Tree, depth, tag_of, weight}
use Rattle.tree_stores.specs.Stores.{HasNumber, IsDeep, IsHeavy, IsSmall, StandFor}
use Rattle.tree_stores.proofs.Growing.{standing_held}
use Rattle.man_resolve.specs.declared.fault.ResolveFault.{ResolveFault}
use Rattle.man_resolve.specs.declared.step.Step.{Step}
use Rattle.man_resolve.specs.Limits.{IsLimitFault, IsWeightFault, IsWithin, PassesLimit, ontology_at, ontology_made, too_heavy}
use Rattle.man_resolve.specs.Making.{AreMade, trees_of}
use Rattle.man_resolve.specs.Resolved.{HasDeepTree}
use Rattle.man_resolve.proofs.MakingLaws.{there}

-- ---- numbers of an arena

trees_are : (trees ts : List Tree) (ids : List ℕ) → StandFor (HasNumber trees) ts ids → trees_at trees ids ≡ map canonical ts
trees_are trees [] [] h = refl
trees_are trees [] (id ∷ ids) h = absurd h
trees_are trees (t ∷ ts) [] h = absurd h
trees_are trees (t ∷ ts) (id ∷ ids) h =
    let first : tree_at trees id ≡ canonical t = get_or_from_slice_get trees id (canonical t) _ h.0 in
    ap (λ u. u ∷ trees_at trees ids) first ∙ ap (λ us. canonical t ∷ us) (trees_are trees ts ids h.1)

pub are_held : (trees ts : List Tree) (ids : List ℕ) → StandFor (HasNumber trees) ts ids → AreHeld trees ids
are_held trees ts ids h = standing_held trees ids (record { trees = ts; stand = h })

equivalent_there : (trees ts : List Tree) (ids : List ℕ) → StandFor (HasNumber trees) ts ids → HoldEquivalent ts (trees_at trees ids)
equivalent_there trees ts ids h =
    subst (HoldEquivalent ts) (sym (trees_are trees ts ids h)) ((equivalent_lists ts (map canonical ts)).1 (ap (λ us. ascending tree_cmp us) (sym (forms_again ts))))

-- what holds of tags holds of those of the trees there
forms_so : (P : Tree → Type 0) → ((t : Tree) → P t → P (canonical t)) → (ts : List Tree) → AllByRecursion P ts → AllByRecursion P (map canonical ts)
forms_so P so [] h = tt
forms_so P so (t ∷ ts) h = (so t h.0, forms_so P so ts h.1)

pub annotations_there : (trees ts : List Tree) (ids : List ℕ) → StandFor (HasNumber trees) ts ids → AreAnnotations ts → AreAnnotations (trees_at trees ids)
annotations_there trees ts ids h are =
    subst AreAnnotations (sym (trees_are trees ts ids h)) (forms_so (λ t. tag_of t ≡ tag.Annotation) (λ t e. canonical_tag t ∙ e) ts are)

pub axioms_there : (trees ts : List Tree) (ids : List ℕ) → StandFor (HasNumber trees) ts ids → AreAxioms ts → AreAxioms (trees_at trees ids)
axioms_there trees ts ids h are =
    subst AreAxioms (sym (trees_are trees ts ids h)) (forms_so (λ t. IsTrue (is_axiom (tag_of t))) (λ t e. ap is_axiom (canonical_tag t) ∙ e) ts are)

-- ---- limits

stands_there : {N : Type 0} (Stands : Tree → N → Type 0) (ts : List Tree) (ns : List N) → StandFor Stands ts ns → (t : Tree) → Contains ts t → (n : N) × Stands t n
stands_there Stands [] ns h t m = absurd (in_none t m)
stands_there Stands (u ∷ us) [] h t m = absurd h
stands_there Stands (u ∷ us) (n ∷ ns) h t m = elim (in_cases u us t m) [
  | inl e ↦ (n, subst (λ v. Stands v n) e h.0)
  | inr more ↦ stands_there Stands us ns h.1 t more
]

pub made_shallow : {N : Type 0} (Stands : Tree → N → Type 0) (head : HeadTree) (notes axioms : List Step) (ns ms : List N) → AreMade Stands (trees_of notes) (trees_of axioms) ns ms →
    ((t : Tree) (n : N) → Stands t n → depth t ≤ deepest) → HasDeepTree (ontology_made head notes axioms) → ⊥
made_shallow Stands head notes axioms ns ms are shallow deep =
    let over = deep.deep in
    let at : (n : _) × Stands deep.tree n = elim (Contains-append_cases (trees_of notes) (trees_of axioms) deep.tree deep.of) [
      | inl m ↦ stands_there Stands (trees_of notes) ns are.notes_stand deep.tree m
      | inr m ↦ stands_there Stands (trees_of axioms) ms are.axioms_stand deep.tree m
    ] in
    let less = shallow deep.tree at.0 at.1 in
    omega (arith, over, less)

pub some_deep : (o : Ontology) → HoldsOfSome IsDeep (o.annotations ++ o.axioms) → HasDeepTree o
some_deep o h = let some = there IsDeep (o.annotations ++ o.axioms) h in record { tree = some.0; of = some.1; deep = some.2 }

among_sum : (f : Tree → ℕ) (ts : List Tree) (t : Tree) → Contains ts t → f t ≤ sum_by f ts
among_sum f [] t m = absurd (in_none t m)
among_sum f (u ∷ us) t m =
    let sum = sum_by-cons f u us in
    elim (in_cases u us t m) [
      | inl e ↦ let same = ap f e in omega (arith, sum, same)
      | inr more ↦ let rest = among_sum f us t more in omega (arith, sum, rest)
    ]

weighs_less : (ts : List Tree) (t : Tree) → Contains ts t → weight (canonical t) ≤ list_weight ts
weighs_less ts t m =
    among_sum weight (canonical_list ts) (canonical t) ((ascending_holds tree_cmp trees_total only_equal_trees_tie (map canonical ts) (canonical t)).1 (in_map canonical ts t m))

pub some_heavy : (o : Ontology) → HoldsOfSome IsHeavy (o.annotations ++ o.axioms) → heaviest < ontology_weight o
some_heavy o h =
    let some = there IsHeavy (o.annotations ++ o.axioms) h in
    let heavy = some.2 in
    elim (Contains-append_cases o.annotations o.axioms some.0 some.1) [
      | inl m ↦ let less = weighs_less o.annotations some.0 m in omega (arith, heavy, less)
      | inr m ↦ let less = weighs_less o.axioms some.0 m in omega (arith, heavy, less)
    ]

-- ---- documents

module _ (head : HeadTree) (notes axioms : List Step) (trees : List Tree) (ns ms : List ℕ) (are : AreMade (HasNumber trees) (trees_of notes) (trees_of axioms) ns ms) (small : (t : Tree) (id : ℕ) → HasNumber trees t id → IsSmall t) where
  abbrev o : Ontology
  o = ontology_made head notes axioms

  abbrev p : Ontology
  p = ontology_at head trees ns ms

  same_there : IsSameOntology o p
  same_there = record {
    head = record { name = refl; imports = hold_same head.imports };
    annotations = equivalent_there trees (trees_of notes) ns are.notes_stand;
    axioms = equivalent_there trees (trees_of axioms) ms are.axioms_stand;
  }

  shallow_there : HasDeepTree o → ⊥
  shallow_there = made_shallow (HasNumber trees) head notes axioms ns ms are (λ t id at. (small t id at).shallow)

  pub within : (q : Ontology) → q ≡ canonical_ontology p → ontology_weight p ≤ heaviest → IsWithin o q
  within q e light = record {
    same = subst (IsSameOntology o) (sym e) (same_ontology_trans o p (canonical_ontology p) same_there (canonical_same_ontology p));
    shallow = shallow_there;
    light = let same = same_ontology_weight o p same_there in omega (arith, same, light);
  }

  pub weight_fault : (f : ResolveFault) → IsWeightFault p f → IsLimitFault o f
  weight_fault f (inl e) = inl e
  weight_fault f (inr h) =
      let same = same_ontology_weight o p same_there in
      let heavy = h.1 in
      inr (subst (PassesLimit o) (sym h.0) (too_heavy shallow_there (omega (arith, same, heavy))))
