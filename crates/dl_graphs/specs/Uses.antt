-- Definitions and uses of datatypes, by the numbers of trees.
use Rattle.std.specs.Prelude.{◌≡◌, ◌<◌, ℕ, List, [], ◌++◌, map, length, Option, None, Some}
use Rattle.std.specs.List.{AllByRecursion, filter_map, flat_map}
use Rattle.dl_rules.specs.Definitions.{Definition, datatype_in, definition_of, uses_of}
use Rattle.dl_rules.specs.Places.{place_of}
use Rattle.owl_arena.specs.Held.{tree_at}
use Rattle.owl_doc.specs.Counts.{subtrees, subtrees_of}
use Rattle.owl_tree.specs.declared.atom.Atom.TheVariants as atom
use Rattle.owl_tree.specs.declared.tag.Tag.TheVariants as tag
use Rattle.owl_tree.specs.Trees.{Tree, leaf, kids_of}
use Rattle.dl_graphs.specs.declared.definitions.DefinitionIds.{DefinitionIds}
use Rattle.dl_graphs.specs.declared.uses.Uses.{Uses}

-- the leaf that names the datatype
abbrev pub datatype_leaf : List ℕ → Tree
datatype_leaf iri = leaf tag.Datatype (atom.Iri iri)

-- the trees with these numbers are what is defined, and its range
pub record IsDefinition (ts : List Tree) (ids : DefinitionIds) (d : Definition) : Type 0 where
  pub datatype : tree_at ts ids.datatype ≡ datatype_leaf d.datatype
  pub range : tree_at ts ids.range ≡ d.range
  pub datatype_held : ids.datatype < length ts
  pub range_held : ids.range < length ts

-- so it is where there is a definition
abbrev pub IsDefinitionIf : List Tree → Option DefinitionIds → Option Definition → Type 0
IsDefinitionIf ts None None = Unit {0}
IsDefinitionIf ts (Some ids) (Some d) = IsDefinition ts ids d
IsDefinitionIf ts _ _ = ⊥

-- the place of the leaf that names the datatype
abbrev pub datatype_place : List Tree → List ℕ → ℕ
datatype_place ts iri = place_of ts (datatype_leaf iri)

-- such a leaf is among the trees
abbrev pub IsNamed : List Tree → List ℕ → Type 0
IsNamed ts iri = datatype_place ts iri < length ts

-- the datatypes in a tree, and in several
abbrev pub datatypes_below : Tree → List (List ℕ)
datatypes_below t = filter_map datatype_in (subtrees t)

abbrev pub datatypes_among : List Tree → List (List ℕ)
datatypes_among us = filter_map datatype_in (subtrees_of (kids_of us))

-- behind what was there these are added, by their numbers; each of them has its numbers among the nodes
pub record AddsNumbered {X : Type 0} (number : X → ℕ × ℕ) (IsListed : X → Type 0) (xs : List X) (old new : List (ℕ × ℕ)) : Type 0 where
  pub grown : new ≡ old ++ map number xs
  pub listed : AllByRecursion IsListed xs

-- pairs of what stands in one place, and of these datatypes
abbrev pub AddsUsed : List Tree → ℕ → List (List ℕ) → List (ℕ × ℕ) → List (ℕ × ℕ) → Type 0
AddsUsed ts defined used old new = AddsNumbered (λ iri. (defined, datatype_place ts iri)) (IsNamed ts) used old new

-- what the axiom uses, if it is a definition
abbrev pub uses_from : Option Definition → List (List ℕ × List ℕ)
uses_from None = []
uses_from (Some d) = uses_of d

abbrev pub uses_at : Tree → List (List ℕ × List ℕ)
uses_at t = uses_from (definition_of t)

abbrev pub AddsUses : List Tree → List (List ℕ × List ℕ) → List (ℕ × ℕ) → List (ℕ × ℕ) → Type 0
AddsUses ts uses old new =
    AddsNumbered (λ (pair : List ℕ × List ℕ). (datatype_place ts pair.0, datatype_place ts pair.1)) (λ pair. IsNamed ts pair.0 × IsNamed ts pair.1) uses old new

-- the uses of these axioms, and how many are of each
pub record AreUses (ts axioms : List Tree) (uses : Uses) : Type 0 where
  pub added : AddsUses ts (flat_map uses_at axioms) [] uses.pairs.items
  pub counts : uses.counts.items ≡ map (λ t. length (uses_at t)) axioms
