-- An order of properties exists exactly where no chain breaks it.
use Rattle.std.proofs.Common.{◌≡◌, ◌⊎◌, inl, inr, List, [], ◌∷◌, sym, ap, ◌∙◌, subst}
use Rattle.std.specs.Prelude.{◌↔◌, Contains}
use Rattle.owl_kind.proofs.Found.{from_joined, joined_from, only}
use Rattle.owl_list.proofs.AscendingLaws.{all_from, in_cases, in_head, in_tail}
use Rattle.owl_tree.specs.Trees.{Tree}
use Rattle.graph_walks.specs.Faults.{IsFault}
use Rattle.graph_walks.specs.Walks.{Walks, here}
use Rattle.graph_walks.proofs.WalkLaws.{walk_keeps}
use Rattle.dl_rules.specs.Hierarchy.{BreaksOrder, HierarchyOrderExists, IsHierarchyOrder, below, below_of, chains, needed}
use Rattle.dl_rules.specs.Properties.{Chain, Property, inverse, leads, property_eq, top_property}
use Rattle.dl_rules.proofs.ChainForms.{suited, suits}
use Rattle.dl_rules.proofs.PropertyLaws.{inverse_again, property_tells}
use Rattle.dl_rules.proofs.Closing.{closed, closed_on, from_closed, in_closed, pair_closed}

-- what a chain puts below what
pub record IsPut (chain : Chain Property) (x y : Property) : Type 0 where
  pub part : Property
  pub among : Contains (needed property_eq top_property chain) part
  pub first : (x ≡ part) ⊎ (x ≡ inverse part)
  pub second : y ≡ chain.implied

module _ (chain : Chain Property) where
  abbrev parts : List Property
  parts = needed property_eq top_property chain

  abbrev pairs_of : Property → List (Property × Property)
  pairs_of p = (p, chain.implied) ∷ (inverse p, chain.implied) ∷ []

  -- a pair of a chain, taken apart and put together
  from_below_of : (x y : Property) → Contains (below_of chain) (x, y) → IsPut chain x y
  from_below_of x y m =
      let f = from_joined pairs_of parts (x, y) m in
      let p : Property = f.0 in
      elim (in_cases {X = Property × Property} (p, chain.implied) ((inverse p, chain.implied) ∷ []) (x, y) f.2) as (λ _. IsPut chain x y) [
        | inl same ↦ let ends = both same in record { part = p; among = f.1; first = inl ends.0; second = ends.1 }
        | inr n ↦
            let ends = both (only {X = Property × Property} (inverse p, chain.implied) (x, y) n) in
            record { part = p; among = f.1; first = inr ends.0; second = ends.1 }
      ]
    where
      both : {p q x y : Property} → ◌≡◌ {A = Property × Property} (p, q) (x, y) → (x ≡ p) × (y ≡ q)
      both same = (sym (ap (λ (pair : Property × Property). pair.0) same), sym (ap (λ (pair : Property × Property). pair.1) same))

  in_below_of : (x : Property) → Contains parts x →
      Contains (below_of chain) (x, chain.implied) × Contains (below_of chain) (inverse x, chain.implied)
  in_below_of x m =
      let own : Property × Property = (x, chain.implied) in
      let turned : Property × Property = (inverse x, chain.implied) in (
        joined_from pairs_of parts own x m (in_head own (turned ∷ [])),
        joined_from pairs_of parts turned x m (in_tail own (turned ∷ []) turned (in_head turned [])),
      )

module _ (axioms : List Tree) where
  -- with a pair, that of the inverse
  below_inverted : (x y : Property) → Contains (below axioms) (x, y) → Contains (below axioms) (inverse x, y)
  below_inverted x y m =
      let f = from_joined below_of (chains axioms) (x, y) m in
      let put = from_below_of f.0 x y f.2 in
      let both = in_below_of f.0 put.part put.among in
      let turned : Contains (below_of f.0) (inverse x, f.0.implied) = elim put.first as (λ _. Contains (below_of f.0) (inverse x, f.0.implied)) [
        | inl same ↦ subst (λ (p : Property). Contains (below_of f.0) (inverse p, f.0.implied)) (sym same) both.1
        | inr same ↦ subst (λ (p : Property). Contains (below_of f.0) (p, f.0.implied)) (sym (ap inverse same ∙ inverse_again put.part)) both.0
      ] in
      joined_from below_of (chains axioms) (inverse x, y) f.0 f.1
      (subst (λ (p : Property). Contains (below_of f.0) (inverse x, p)) (sym put.second) turned)

  abbrev order_of : List (Property × Property)
  order_of = closed property_eq property_tells (below axioms)

  module _ (none : (chain : Chain Property) → Contains (chains axioms) chain → BreaksOrder axioms chain → ⊥) where
    -- no pair is part of a fault
    no_fault : (x y : Property) → Contains (below axioms) (x, y) → IsFault (leads axioms) (below axioms) x y → ⊥
    no_fault x y m fault =
        let f = from_joined below_of (chains axioms) (x, y) m in
        none f.0 f.1 (record { one = (x, y); among = f.2; holds = fault })

    turned_order : (p q : Property) → Contains order_of (p, q) → Contains order_of (inverse p, q)
    turned_order p q m =
        let w = from_closed property_eq property_tells (below axioms) p q m in
        in_closed property_eq property_tells (below axioms) (inverse p) q
        (record { next = w.next; step = below_inverted p w.next w.step; rest = w.rest })

    order_from : IsHierarchyOrder axioms order_of
    order_from = record {
      irreflexive = λ p m.
          let w = from_closed property_eq property_tells (below axioms) p p m in
          no_fault p w.next w.step (record { upper = p; lower = p; above = w.rest; led = here p; under = here p });
      passes_on = closed_on property_eq property_tells (below axioms);
      inverted = λ p q. (
        turned_order p q,
        λ m. subst (λ (r : Property). Contains order_of (r, q)) (inverse_again p) (turned_order (inverse p) q m),
      );
      apart = λ p q m way.
          let w = from_closed property_eq property_tells (below axioms) p q m in
          no_fault p w.next w.step (record { upper = q; lower = p; above = w.rest; led = way; under = here p });
      chained = λ chain m.
          suits order_of chain (all_from (λ (p : Property). Contains order_of (p, chain.implied)) (needed property_eq top_property chain) (λ x n.
          pair_closed property_eq property_tells (below axioms) x chain.implied
          (joined_from below_of (chains axioms) (x, chain.implied) chain m (in_below_of chain x n).0)));
    }

  module _ (order : List (Property × Property)) (is : IsHierarchyOrder axioms order) where
    -- what a chain puts below something is below it in the order
    ordered : (x y : Property) → Contains (below axioms) (x, y) → Contains order (x, y)
    ordered x y m =
        let f = from_joined below_of (chains axioms) (x, y) m in
        let put = from_below_of f.0 x y f.2 in
        let there : Contains order (put.part, f.0.implied) = suited order f.0 is.irreflexive (is.chained f.0 f.1) put.part put.among in
        let first : Contains order (x, f.0.implied) = elim put.first as (λ _. Contains order (x, f.0.implied)) [
          | inl same ↦ subst (λ (p : Property). Contains order (p, f.0.implied)) (sym same) there
          | inr same ↦ subst (λ (p : Property). Contains order (p, f.0.implied)) (sym same) ((is.inverted put.part f.0.implied).0 there)
        ] in
        subst (λ (p : Property). Contains order (x, p)) (sym put.second) first

    -- what is above the end of a walk is above its start
    from_start : (a b c : Property) → Walks (below axioms) a b → Contains order (b, c) → Contains order (a, c)
    from_start a b c way =
        walk_keeps (below axioms) (λ z. Contains order (z, c) → Contains order (a, c))
        (λ x y step before k. before (is.passes_on x y c (ordered x y step) k)) a b way (λ k. k)

    none_breaks : (chain : Chain Property) → Contains (chains axioms) chain → BreaksOrder axioms chain → ⊥
    none_breaks chain m breaks =
        let x : Property = breaks.one.0 in
        let y : Property = breaks.one.1 in
        let fault : IsFault (leads axioms) (below axioms) x y = breaks.holds in
        let pair : Contains order (x, y) = ordered x y (joined_from below_of (chains axioms) (x, y) chain m breaks.among) in
        let up : Contains order (x, fault.upper) =
        walk_keeps (below axioms) (λ z. Contains order (x, z))
        (λ z w step k. is.passes_on x z w k (ordered z w step)) y fault.upper fault.above pair in
        is.apart fault.lower fault.upper (from_start fault.lower x fault.upper fault.under up) fault.led

pub hierarchy_orders : (axioms : List Tree) →
    ((chain : Chain Property) → Contains (chains axioms) chain → BreaksOrder axioms chain → ⊥) ↔ HierarchyOrderExists axioms
hierarchy_orders axioms = (
  λ none. record { order = order_of axioms; is = order_from axioms none },
  λ exists. none_breaks axioms exists.order exists.is,
)
