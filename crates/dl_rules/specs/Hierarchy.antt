-- The order of object property expressions that OWL 2 DL asks for (Structural Specification, section 11.2, "Restriction on the property hierarchy").
use Rattle.std.specs.Prelude.{◌≡◌, ◌↔◌, Bool, false, ◌&&◌, ◌||◌, if◌then◌else◌, List, [], ◌∷◌, ◌++◌, Contains, Option, None, Some, unwrap_or}
use Rattle.std.specs.Option.{option_map}
use Rattle.std.specs.List.{AllByRecursion, filter_map, flat_map}
use Rattle.graph_walks.specs.Faults.{IsFault}
use Rattle.graph_walks.specs.Walks.{Walks}
use Rattle.owl_breaches.specs.Those.{HoldsOfOne}
use Rattle.owl_tree.specs.Trees.{Tree}
use Rattle.dl_rules.specs.Properties.{Chain, Property, chain_of, inverse, leads, property_eq, top_property}

-- an order is a list of pairs, of which the first is below the second
abbrev pub AreBelow : List (Property × Property) → List Property → Property → Type 0
AreBelow order ps q = AllByRecursion (λ p. Contains order (p, q)) ps

-- the forms of a chain that the order admits
pub data Suits (order : List (Property × Property)) (chain : Chain Property) : Type 0 where
  of_top : chain.implied ≡ top_property → Suits order chain
  transitive : chain.parts ≡ chain.implied ∷ chain.implied ∷ [] → Suits order chain
  all : AreBelow order chain.parts chain.implied → Suits order chain
  begins : (rest : List Property) → chain.parts ≡ chain.implied ∷ rest → AreBelow order rest chain.implied → Suits order chain
  ends : (front : List Property) → chain.parts ≡ front ++ chain.implied ∷ [] → AreBelow order front chain.implied → Suits order chain

abbrev pub chains : List Tree → List (Chain Property)
chains axioms = filter_map chain_of axioms

-- a strict partial order as these axioms ask for it
pub record IsHierarchyOrder (axioms : List Tree) (order : List (Property × Property)) : Type 0 where
  pub irreflexive : (p : Property) → Contains order (p, p) → ⊥
  pub passes_on : (p q r : Property) → Contains order (p, q) → Contains order (q, r) → Contains order (p, r)
  pub inverted : (p q : Property) → Contains order (p, q) ↔ Contains order (inverse p, q)
  pub apart : (p q : Property) → Contains order (p, q) → Walks (leads axioms) q p → ⊥
  pub chained : (chain : Chain Property) → Contains (chains axioms) chain → Suits order chain

pub record HierarchyOrderExists (axioms : List Tree) : Type 0 where
  pub order : List (Property × Property)
  pub is : IsHierarchyOrder axioms order

module _ {P : Type 0} (eq : P → P → Bool) where
  -- all but the last, where that is this property
  abbrev pub in_front_of : P → List P → Option (List P)
  in_front_of q [] = None
  in_front_of q (p ∷ []) = if eq p q then Some [] else None
  in_front_of q (p ∷ r ∷ ps) = option_map (λ front. p ∷ front) (in_front_of q (r ∷ ps))

  -- all but the first, where that is this property
  abbrev pub behind : P → List P → Option (List P)
  behind q [] = None
  behind q (p ∷ ps) = if eq p q then Some ps else None

  abbrev pub is_twice : P → List P → Bool
  is_twice q (p ∷ r ∷ []) = eq p q && eq r q
  is_twice q _ = false

  -- the properties of a chain that have to stand below the one that it implies, by the first form that may suit
  abbrev pub needed : P → Chain P → List P
  needed top chain =
      if eq chain.implied top || is_twice chain.implied chain.parts then []
      else unwrap_or (behind chain.implied chain.parts) (unwrap_or (in_front_of chain.implied chain.parts) chain.parts)

-- what a chain puts below what, and with each property its inverse
abbrev pub below_over : {P : Type 0} → (P → P) → P → List P → List (P × P)
below_over {P} inverse_of implied ps = flat_map (λ (p : P). (p, implied) ∷ (inverse_of p, implied) ∷ []) ps

abbrev pub below_of : Chain Property → List (Property × Property)
below_of chain = below_over inverse chain.implied (needed property_eq top_property chain)

abbrev pub below : List Tree → List (Property × Property)
below axioms = flat_map below_of (chains axioms)

-- One of these pairs stands in a way from a property up by such pairs, on by steps that lead, and up by such pairs to where it began; so no order has it.
abbrev pub BreaksOrder : List Tree → Chain Property → Type 0
BreaksOrder axioms chain = HoldsOfOne (λ (pair : Property × Property). IsFault (leads axioms) (below axioms) pair.0 pair.1) (below_of chain)
