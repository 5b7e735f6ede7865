-- Object property expressions by numbers.
use Rattle.std.specs.Prelude.{◌≡◌, ℕ, ◌+◌, ◌*◌, ◌&&◌, Bool, not, nat_eq, if◌then◌else◌, List, Option, None, Some, [], length, map}
use Rattle.std.specs.Bool.{beq}
use Rattle.std.specs.List.{flat_map}
use Rattle.std.specs.Option.{option_map}
use Rattle.dl_rules.specs.Hierarchy.{below_of}
use Rattle.dl_rules.specs.Logical.{iri_in, operands}
use Rattle.dl_rules.specs.Places.{place_of}
use Rattle.dl_rules.specs.Properties.{Chain, Property, chain_of, named_over, properties_in, transitive_over, with_inverse}
use Rattle.owl_tree.specs.declared.atom.Atom.TheVariants as atom
use Rattle.owl_tree.specs.declared.tag.Tag.TheVariants as tag
use Rattle.owl_tree.specs.Trees.{Tree, leaf, tag_of}
use Rattle.property_hierarchy.specs.declared.chains.Below.{Below}
use Rattle.property_hierarchy.specs.declared.chains.ChainNumbers.{ChainNumbers}
use Rattle.property_hierarchy.specs.declared.numbers.PropertyNumber.{PropertyNumber}

-- the place of the property, and whether it is inverted
abbrev pub number_of : List Tree → Property → PropertyNumber
number_of ts p = record { place = place_of ts (leaf tag.ObjectProperty (atom.Iri p.iri)); inverted = p.inverted }

-- the number of the property that the leaf names
abbrev pub named_number : List Tree → Tree → Option PropertyNumber
named_number ts t = option_map (number_of ts) (named_over (tag_of t) (iri_in t))

-- the numbers of those of the trees that are object property expressions
abbrev pub numbers_in : List Tree → List Tree → List PropertyNumber
numbers_in ts others = map (number_of ts) (properties_in others)

abbrev pub inverse_number : PropertyNumber → PropertyNumber
inverse_number n = record { place = n.place; inverted = not n.inverted }

abbrev pub number_eq : PropertyNumber → PropertyNumber → Bool
number_eq n m = nat_eq n.place m.place && beq n.inverted m.inverted

abbrev pub node_of : PropertyNumber → ℕ
node_of n = if n.inverted then 2 * n.place + 1 else 2 * n.place

-- pairs of properties, by their numbers
abbrev pub numbered_pairs : List Tree → List (Property × Property) → List (PropertyNumber × PropertyNumber)
numbered_pairs ts pairs = map (λ (pair : Property × Property). (number_of ts pair.0, number_of ts pair.1)) pairs

abbrev pub numbered_chain : List Tree → Chain Property → Chain PropertyNumber
numbered_chain ts chain = record { parts = map (number_of ts) chain.parts; implied = number_of ts chain.implied }

-- the chain that the code has
abbrev pub chain_seen : ChainNumbers → Chain PropertyNumber
chain_seen chain = record { parts = chain.parts.items; implied = chain.implied }

-- each of the properties and its inverse, by their numbers
abbrev pub both_of : List Tree → List Property → List PropertyNumber
both_of ts ps = flat_map (with_inverse inverse_number) (map (number_of ts) ps)

-- the properties that are transitive by the axiom
abbrev pub transitive_by : Tree → List Property
transitive_by t = transitive_over (tag_of t) (properties_in (operands t))

-- what the axiom puts below what, if it is a chain
abbrev pub below_from : Option (Chain Property) → List (Property × Property)
below_from None = []
below_from (Some chain) = below_of chain

abbrev pub below_at : Tree → List (Property × Property)
below_at t = below_from (chain_of t)

-- what these axioms put below what, and how many pairs of it are of each
pub record IsBelowBy (ts axioms : List Tree) (below : Below) : Type 0 where
  pub pairs : below.pairs.items ≡ numbered_pairs ts (flat_map below_at axioms)
  pub counts : below.counts.items ≡ map (λ t. length (below_at t)) axioms
