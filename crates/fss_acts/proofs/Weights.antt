-- What an ontology weighs with one more item.
use Rattle.std.proofs.Common.{◌≡◌, ◌<◌, ◌+◌, ◌⊎◌, inl, inr, ℕ, List, [], ◌∷◌, ◌++◌, length, Contains, refl, sym, ap, ◌∙◌, subst, arith}
use Rattle.std.specs.declared.cmp.Ordering.{Ordering}
use Rattle.std.specs.declared.cmp.Ordering.TheVariants.{Less, Equal, Greater}
use Rattle.std.specs.Prelude.{map}
use Rattle.std.specs.List.{sum_by}
use Rattle.std.proofs.lemmas.List.Elements.{Contains-append_cases, Contains-append_left, Contains-append_right}
use Rattle.std.proofs.lemmas.List.Sums.{sum_by-cons}
use Rattle.owl_arena.specs.Growth.{Adds, Lacks}
use Rattle.owl_arena.specs.Held.{AreHeld, tree_at, trees_at}
use Rattle.owl_arena.proofs.HeldLaws.{kids_canonical}
use Rattle.owl_arena.specs.Shared.{AreShared}
use Rattle.owl_list.specs.Ascending.{AreApart, HoldSame, ascending, by_order, put}
use Rattle.owl_list.proofs.AscendingLaws.{all_in, ascending_holds, ascending_same, from_map, in_cases, in_head, in_none, in_tail, same_map}
use Rattle.owl_tree.specs.Canonical.{canonical}
use Rattle.owl_tree.proofs.CanonicalLaws.{canonical_again, canonical_equivalent}
use Rattle.owl_tree.specs.Equivalence.{IsEquivalent}
use Rattle.owl_tree.proofs.EquivalenceLaws.{equivalent_sym}
use Rattle.owl_tree.specs.Ontologies.{AreAmong, HoldEquivalent, list_weight}
use Rattle.owl_tree.proofs.OntologyLaws.{equivalent_lists}
use Rattle.owl_tree.specs.Order.{tree_cmp}
use Rattle.owl_tree.specs.OrderLaws.{only_equal_trees_tie, trees_total}
use Rattle.owl_tree.specs.Trees.{Tree, weight}

-- ---- one more tree behind others

in_last : (ts : List Tree) (t : Tree) → Contains (ts ++ t ∷ []) t
in_last ts t = Contains-append_right ts (t ∷ []) t (in_head t [])

in_pushed : (ts : List Tree) (t u : Tree) → Contains (ts ++ t ∷ []) u → Contains ts u ⊎ (t ≡ u)
in_pushed ts t u m = elim (Contains-append_cases ts (t ∷ []) u m) [
  | inl l ↦ inl l
  | inr r ↦ elim (in_cases t [] u r) [ inl e ↦ inr e | inr n ↦ absurd (in_none u n) ]
]

-- trees among others stay so where these get one more
among_more : (ts us vs : List Tree) → ((u : Tree) → Contains us u → Contains vs u) → AreAmong ts us → AreAmong ts vs
among_more ts us vs more h t m = let u = h t m in (u.0, more u.0 u.1, u.2)

among_pushed : (ts us : List Tree) (t u : Tree) → Contains us u → IsEquivalent t u → AreAmong ts us → AreAmong (ts ++ t ∷ []) us
among_pushed ts us t u inside same h v m = elim (in_pushed ts t v m) [
  | inl l ↦ h v l
  | inr e ↦ (u, inside, subst (λ (x : Tree). IsEquivalent x u) e same)
]

pub pushed : (ts us : List Tree) (t : Tree) → HoldEquivalent ts us → HoldEquivalent (ts ++ t ∷ []) (us ++ canonical t ∷ [])
pushed ts us t h =
    let vs = ts ++ t ∷ [] in
    let ws = us ++ canonical t ∷ [] in
    record {
      there = among_pushed ts ws t (canonical t) (in_last us (canonical t)) (canonical_equivalent t) (among_more ts us ws (λ u m. Contains-append_left us (canonical t ∷ []) u m) h.there);
      back = among_pushed us vs (canonical t) t (in_last ts t) (equivalent_sym t (canonical t) (canonical_equivalent t)) (among_more us ts vs (λ u m. Contains-append_left ts (t ∷ []) u m) h.back);
    }

-- the canonical form of a tree that is added is there, or comes too
pub with_form : (ts us vs : List Tree) (t : Tree) → HoldEquivalent ts us → Adds us vs (canonical t) → HoldEquivalent (ts ++ t ∷ []) vs
with_form ts us vs t h (inl a) =
    subst (λ (ws : List Tree). HoldEquivalent (ts ++ t ∷ []) ws) (sym a.1) record {
      there = among_pushed ts us t (canonical t) a.0 (canonical_equivalent t) h.there;
      back = among_more us ts (ts ++ t ∷ []) (λ u m. Contains-append_left ts (t ∷ []) u m) h.back;
    }
with_form ts us vs t h (inr a) = subst (λ (xs : List Tree). HoldEquivalent (ts ++ t ∷ []) xs) (sym a.1) (pushed ts us t h)

-- ---- sums

sum_by_order : (o : Ordering) (x y : Tree) (ys rest : List Tree) → tree_cmp x y ≡ o → (Contains (y ∷ ys) x → ⊥) → sum_by weight rest ≡ weight x + sum_by weight ys → sum_by weight (by_order o (x ∷ y ∷ ys) (y ∷ ys) (y ∷ rest)) ≡ weight x + sum_by weight (y ∷ ys)
sum_by_order Less x y ys rest e absent h = sum_by-cons weight x (y ∷ ys)
sum_by_order Equal x y ys rest e absent h =
    absurd (absent (subst (λ (z : Tree). Contains (y ∷ ys) z) (sym (only_equal_trees_tie x y e)) (in_head y ys)))
sum_by_order Greater x y ys rest e absent h = omega (arith, h, sum_by-cons weight y rest, sum_by-cons weight y ys)

sum_put : (x : Tree) (ys : List Tree) → (Contains ys x → ⊥) → sum_by weight (put tree_cmp x ys) ≡ weight x + sum_by weight ys
sum_put x [] absent = sum_by-cons weight x []
sum_put x (y ∷ ys) absent = sum_by_order (tree_cmp x y) x y ys (put tree_cmp x ys) refl absent (sum_put x ys (λ m. absent (in_tail y ys x m)))

-- of trees of which none stands twice
sum_apart : (ts : List Tree) → AreApart ts → sum_by weight (ascending tree_cmp ts) ≡ sum_by weight ts
sum_apart [] apart = refl
sum_apart (t ∷ ts) apart =
    let absent = λ (m : Contains (ascending tree_cmp ts) t). apart.0 ((ascending_holds tree_cmp trees_total only_equal_trees_tie ts t).0 m) in
    sum_put t (ascending tree_cmp ts) absent ∙ ap (λ (n : ℕ). weight t + n) (sum_apart ts apart.1) ∙ sym (sum_by-cons weight t ts)

-- canonical forms, of which none stands twice
pub record AreForms (us : List Tree) : Type 0 where
  pub forms : map canonical us ≡ us
  pub apart : AreApart us

pub weighs : (us : List Tree) → AreForms us → list_weight us ≡ sum_by weight us
weighs us h = ap (λ (ts : List Tree). sum_by weight (ascending tree_cmp ts)) h.forms ∙ sum_apart us h.apart

same_lists : (us vs : List Tree) → HoldSame us vs → list_weight us ≡ list_weight vs
same_lists us vs h = ap (λ (ts : List Tree). sum_by weight ts) (ascending_same tree_cmp trees_total only_equal_trees_tie (map canonical us) (map canonical vs) (same_map canonical us vs h))

last_first : (us : List Tree) (u : Tree) → HoldSame (us ++ u ∷ []) (u ∷ us)
last_first us u v = (
  λ m. elim (in_pushed us u v m) [ inl l ↦ in_tail u us v l | inr e ↦ subst (λ (x : Tree). Contains (u ∷ us) x) e (in_head u us) ],
  λ m. elim (in_cases u us v m) [ inl e ↦ subst (λ (x : Tree). Contains (us ++ u ∷ []) x) e (in_last us u) | inr n ↦ Contains-append_left us (u ∷ []) v n ],
)

forms_first : (us : List Tree) (u : Tree) → AreForms us → canonical u ≡ u → Lacks us u → AreForms (u ∷ us)
forms_first us u h e absent = record { forms = λ i. e i ∷ h.forms i; apart = (absent, h.apart) }

pub weighs_more : (us : List Tree) (u : Tree) → AreForms us → canonical u ≡ u → Lacks us u → list_weight (us ++ u ∷ []) ≡ sum_by weight us + weight u
weighs_more us u h e absent =
    let first = same_lists (us ++ u ∷ []) (u ∷ us) (last_first us u) ∙ weighs (u ∷ us) (forms_first us u h e absent) ∙ sum_by-cons weight u us in
    omega (arith, first)

there_already : (us : List Tree) (u : Tree) → Contains us u → HoldSame (us ++ u ∷ []) us
there_already us u inside v = (
  λ m. elim (in_pushed us u v m) [ inl l ↦ l | inr e ↦ subst (λ (x : Tree). Contains us x) e inside ],
  λ m. Contains-append_left us (u ∷ []) v m,
)

pub weighs_same : (us : List Tree) (u : Tree) → AreForms us → Contains us u → list_weight (us ++ u ∷ []) ≡ sum_by weight us
weighs_same us u h inside = same_lists (us ++ u ∷ []) us (there_already us u inside) ∙ weighs us h

-- equivalent lists weigh the same
pub equivalent_weight : (ts us : List Tree) → HoldEquivalent ts us → list_weight ts ≡ list_weight us
equivalent_weight ts us h = ap (λ (vs : List Tree). sum_by weight vs) ((equivalent_lists ts us).0 h)

-- ---- one more tree in an ontology

module _ (ts us : List Tree) (t : Tree) (h : HoldEquivalent ts us) (are : AreForms us) where
  pub weighs_new : Lacks us (canonical t) → list_weight (ts ++ t ∷ []) ≡ sum_by weight us + weight (canonical t)
  weighs_new absent =
      equivalent_weight (ts ++ t ∷ []) (us ++ canonical t ∷ []) (pushed ts us t h) ∙ weighs_more us (canonical t) are (canonical_again t) absent

  pub weighs_old : Contains us (canonical t) → list_weight (ts ++ t ∷ []) ≡ sum_by weight us
  weighs_old inside =
      equivalent_weight (ts ++ t ∷ []) (us ++ canonical t ∷ []) (pushed ts us t h) ∙ weighs_same us (canonical t) are inside

pub weighs_equivalent : (ts us : List Tree) → HoldEquivalent ts us → AreForms us → list_weight ts ≡ sum_by weight us
weighs_equivalent ts us h are = equivalent_weight ts us h ∙ weighs us are

-- ---- trees of an arena

module _ (ts : List Tree) (shared : AreShared ts) where
  absent_tree : (ids : List ℕ) (id : ℕ) → AreHeld ts ids → id < length ts → (Contains ids id → ⊥) → Contains (trees_at ts ids) (tree_at ts id) → ⊥
  absent_tree ids id held here absent m =
      let v = from_map (tree_at ts) ids (tree_at ts id) m in
      let there = all_in (λ (other : ℕ). other < length ts) ids v.element held v.inside in
      absent (subst (λ (other : ℕ). Contains ids other) (shared.one_number v.element id there here v.value) v.inside)

  trees_apart : (ids : List ℕ) → AreHeld ts ids → AreApart ids → AreApart (trees_at ts ids)
  trees_apart [] held once = tt
  trees_apart (id ∷ ids) held once = (absent_tree ids id held.1 held.0 once.0, trees_apart ids held.1 once.1)

  pub are_forms : (ids : List ℕ) → AreHeld ts ids → AreApart ids → AreForms (trees_at ts ids)
  are_forms ids held once = record { forms = kids_canonical ts shared ids held; apart = trees_apart ids held once }
