-- Object property expressions, which of them lead to which, and which are simple (Structural Specification, sections 6.1, 9.2 and 11.1).
use Rattle.std.specs.Prelude.{ℕ, Bool, true, false, ◌&&◌, if◌then◌else◌, not, List, [], ◌∷◌, ◌++◌, map, Option, None, Some, codes}
use Rattle.std.specs.Bool.{beq}
use Rattle.std.specs.List.{filter_map, flat_map}
use Rattle.std.specs.Option.{option_map}
use Rattle.graph_walks.specs.Walks.{IsReached}
use Rattle.owl_characters.specs.Order.{text_eq}
use Rattle.owl_tree.specs.declared.tag.Tag.{Tag}
use Rattle.owl_tree.specs.declared.tag.Tag.TheVariants as tag
use Rattle.owl_tree.specs.Trees.{Tree, node, kids_in, list_of, tag_of}
use Rattle.rdf_terms.specs.Vocabulary.{owl}
use Rattle.dl_rules.specs.Logical.{iri_in, operands}

-- an object property, or the inverse of one
pub record Property : Type 0 where
  pub iri : List ℕ
  pub inverted : Bool

abbrev pub named : List ℕ → Property
named iri = record { iri = iri; inverted = false }

-- the inverse of an inverse is the property itself
abbrev pub inverse : Property → Property
inverse p = record { iri = p.iri; inverted = not p.inverted }

abbrev pub property_eq : Property → Property → Bool
property_eq p q = text_eq p.iri q.iri && beq p.inverted q.inverted

unfoldable pub top_property : Property
top_property = named (owl (codes "topObjectProperty"))

unfoldable pub bottom_property : Property
bottom_property = named (owl (codes "bottomObjectProperty"))

-- the property that a leaf with this tag names
unfoldable pub named_over : Tag → Option (List ℕ) → Option Property
named_over tag.ObjectProperty iri = option_map named iri
named_over _ iri = None

-- the object property expression that a tree with this tag and these kids is
unfoldable pub property_over : Tag → Option (List ℕ) → List Tree → Option Property
property_over tag.ObjectInverseOf iri (t ∷ []) = option_map inverse (named_over (tag_of t) (iri_in t))
property_over t iri ts = named_over t iri

abbrev pub property_in : Tree → Option Property
property_in t = property_over (tag_of t) (iri_in t) (kids_in t)

abbrev pub properties_in : List Tree → List Property
properties_in ts = filter_map property_in ts

-- each of these leads to the next, and back
abbrev pub neighbours : {P : Type 0} → List P → List (P × P)
neighbours [] = []
neighbours (p ∷ []) = []
neighbours (p ∷ q ∷ ps) = (p, q) ∷ (q, p) ∷ neighbours (q ∷ ps)

-- what an axiom with this tag over these says that leads to what, from the sub property to the super property
unfoldable pub steps_over : {P : Type 0} → (P → P) → Tag → List P → List (P × P)
steps_over inverse_of tag.SubObjectPropertyOf (p ∷ q ∷ []) = (p, q) ∷ []
steps_over inverse_of tag.EquivalentObjectProperties ps = neighbours ps
steps_over inverse_of tag.InverseObjectProperties (p ∷ []) = neighbours (p ∷ inverse_of p ∷ [])
steps_over inverse_of tag.InverseObjectProperties (p ∷ q ∷ []) = neighbours (p ∷ inverse_of q ∷ [])
steps_over inverse_of tag.SymmetricObjectProperty (p ∷ []) = (p, inverse_of p) ∷ []
steps_over inverse_of _ ps = []

-- where a property leads to another, so do their inverses
abbrev pub with_inverses : {P : Type 0} → (P → P) → List (P × P) → List (P × P)
with_inverses {P} inverse_of pairs = pairs ++ map (λ (pair : P × P). (inverse_of pair.0, inverse_of pair.1)) pairs

abbrev pub steps_of : Tree → List (Property × Property)
steps_of t = with_inverses inverse (steps_over inverse (tag_of t) (properties_in (operands t)))

abbrev pub leads : List Tree → List (Property × Property)
leads axioms = flat_map steps_of axioms

-- properties one behind the other, and the property that they imply
pub record Chain (P : Type 0) : Type 0 where
  pub parts : List P
  pub implied : P

-- the chain of an axiom with these operands
unfoldable pub chain_over : Tag → List Tree → Option (Chain Property)
chain_over tag.SubObjectPropertyOf (node tag.ObjectPropertyChain ks ∷ t ∷ []) = option_map (λ p. record { parts = properties_in (list_of ks); implied = p }) (property_in t)
chain_over _ ts = None

abbrev pub chain_of : Tree → Option (Chain Property)
chain_of t = chain_over (tag_of t) (operands t)

-- the properties of an axiom with this tag over these that are transitive
unfoldable pub transitive_over : {P : Type 0} → Tag → List P → List P
transitive_over tag.TransitiveObjectProperty ps = ps
transitive_over _ ps = []

abbrev pub implied_by : {P : Type 0} → Option (Chain P) → List P
implied_by None = []
implied_by (Some chain) = chain.implied ∷ []

abbrev pub with_inverse : {P : Type 0} → (P → P) → P → List P
with_inverse inverse_of p = p ∷ inverse_of p ∷ []

-- what the axiom makes composite: the property that is transitive, or that a chain implies, and its inverse
abbrev pub composites_of : Tree → List Property
composites_of t = flat_map (with_inverse inverse) (implied_by (chain_of t) ++ transitive_over (tag_of t) (properties_in (operands t)))

abbrev pub composites : List Tree → List Property
composites axioms = top_property ∷ bottom_property ∷ flat_map composites_of axioms

-- no composite property leads to it, in however many steps
abbrev pub IsSimple : List Tree → Property → Type 0
IsSimple axioms p = IsReached (leads axioms) (composites axioms) p → ⊥

-- where properties have to be simple (section 11.2)
unfoldable pub asks_simple : Tag → Bool
asks_simple tag.ObjectMinCardinality = true
asks_simple tag.ObjectMaxCardinality = true
asks_simple tag.ObjectExactCardinality = true
asks_simple tag.ObjectHasSelf = true
asks_simple tag.FunctionalObjectProperty = true
asks_simple tag.InverseFunctionalObjectProperty = true
asks_simple tag.IrreflexiveObjectProperty = true
asks_simple tag.AsymmetricObjectProperty = true
asks_simple tag.DisjointObjectProperties = true
asks_simple _ = false

-- the properties that have to be simple, since they are kids of this tree
abbrev pub asked_simple : Tree → List Property
asked_simple t = if asks_simple (tag_of t) then properties_in (kids_in t) else []
