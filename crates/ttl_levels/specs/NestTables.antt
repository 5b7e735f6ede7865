-- What is found of nodes, by their numbers.
use Rattle.std.specs.Prelude.{◌≡◌, ◌⊎◌, ◌<◌, ◌≤◌, ◌+◌, ◌&&◌, ℕ, zero, suc, Bool, true, false, cond, List, [], ◌∷◌, Contains, Option, None, Some, length, slice_get, slice_index}
use Rattle.std.specs.Str.{bytes_eq}
use Rattle.rdf_graph.specs.declared.term.Term.{Term}
use Rattle.rdf_graph.specs.declared.term.Term.TheVariants.{Blank}
use Rattle.rdf_graph.specs.declared.triple.Triple.{Triple}
use Rattle.rdf_roles.specs.Tables.{IsNode, LeadsBetween, blank_nodes}
use Rattle.ttl_levels.specs.Nested.{HasCells, HasLevel, IsRound, first_iri, is_nestable, most_levels, named_by, rest_iri}
use Rattle.ttl_levels.specs.declared.named.Named.{Named}
use Rattle.ttl_levels.specs.declared.named.Named.TheVariants.{Never, Once, More}

-- the one triple of which the term is the object stands at the place
pub record IsOnceAt (g before : List Triple) (x : Term) (place : ℕ) : Type 0 where
  pub triple : Triple
  pub at : slice_get g place ≡ Some triple
  pub only : named_by before x ≡ triple ∷ []

-- of how many of these triples, which are the first ones of the graph, the term is the object
abbrev pub IsNamedSo : List Triple → List Triple → Term → Named → Type 0
IsNamedSo g before x Never = named_by before x ≡ []
IsNamedSo g before x (Once place) = IsOnceAt g before x place
IsNamedSo g before x More = 2 ≤ length (named_by before x)

-- so it is of each node
pub record AreNamed (g before : List Triple) (names : List Named) : Type 0 where
  pub size : length names ≡ length (blank_nodes g)
  pub each : (number : ℕ) (label : List ℕ) (named : Named) → slice_get (blank_nodes g) number ≡ Some label → slice_get names number ≡ Some named → IsNamedSo g before (Blank label) named

-- how many cells a round node has, 0 where it is none
abbrev pub IsCellCount : List Triple → Term → ℕ → Type 0
IsCellCount g x zero = IsRound g x → ⊥
IsCellCount g x (suc n) = HasCells g (suc n) x

-- the level of a nestable node, 0 where it is none
abbrev pub IsLevelOf : List Triple → Term → ℕ → Type 0
IsLevelOf g x zero = is_nestable g x ≡ false
IsLevelOf g x (suc n) = HasLevel g x (suc n)

-- of the node with the number
abbrev pub IsCellCountAt : List Triple → ℕ → ℕ → Type 0
IsCellCountAt g number n = (label : List ℕ) → slice_get (blank_nodes g) number ≡ Some label → IsCellCount g (Blank label) n

abbrev pub IsLevelAt : List Triple → ℕ → ℕ → Type 0
IsLevelAt g number n = (label : List ℕ) → slice_get (blank_nodes g) number ≡ Some label → IsLevelOf g (Blank label) n

-- the counts of all nodes
pub record AreCounts (g : List Triple) (cells : List ℕ) : Type 0 where
  pub size : length cells ≡ length (blank_nodes g)
  pub each : (number : ℕ) → IsCellCountAt g number (slice_index cells number)

pub record AreLevels (g : List Triple) (levels : List ℕ) : Type 0 where
  pub size : length levels ≡ length (blank_nodes g)
  pub each : (number : ℕ) → IsLevelAt g number (slice_index levels number)

-- what is known of the nodes of a graph
pub record NestTable : Type 0 where
  pub cells : List ℕ
  pub levels : List ℕ

pub record IsNestTable (g : List Triple) (table : NestTable) : Type 0 where
  pub cells : AreCounts g table.cells
  pub levels : AreLevels g table.levels

-- the triple alone has the term as its object
abbrev pub IsNamer : List Triple → Term → Triple → Type 0
IsNamer g x t = Contains g t × (named_by g x ≡ t ∷ [])

-- the value at the number of the term, and 0 where it is no node
pub data IsValueOf (g : List Triple) (values : List ℕ) (x : Term) : ℕ → Type 0 where
  of_node : (number : ℕ) → IsNode g x number → IsValueOf g values x (slice_index values number)
  of_none : ((number : ℕ) → IsNode g x number → ⊥) → IsValueOf g values x 0

-- the rest of a cell, where these two triples are its own
abbrev pub cell_rest : List Triple → Option Term
cell_rest (t ∷ u ∷ []) = cond (bytes_eq t.predicate first_iri && bytes_eq u.predicate rest_iri) (Some u.object) None
cell_rest _ = None

-- the counts of the nodes to which the node with the number leads
abbrev pub AreKnownBelow : List Triple → List ℕ → ℕ → Type 0
AreKnownBelow g cells number = (next : ℕ) → LeadsBetween g number next → IsCellCountAt g next (slice_index cells next)

-- how many cells a cell with this rest has, 0 where it is not round
abbrev pub IsCountBefore : List Triple → Term → ℕ → Type 0
IsCountBefore g rest zero = (n : ℕ) → HasCells g n rest → ⊥
IsCountBefore g rest (suc n) = HasCells g n rest

-- where the object of the one triple of a node is nestable, the level of its subject is known
abbrev pub AreKnownAbove : List Triple → List ℕ → ℕ → Type 0
AreKnownAbove g levels number = (over : ℕ) → LeadsBetween g over number → IsLevelAt g over (slice_index levels over)

-- the level below this one, by whether the triple between them stays inside of a collection
abbrev pub IsLevelFrom : Bool → ℕ → ℕ → Type 0
IsLevelFrom inside above level =
    ((most_levels < above) × (level ≡ 1))
    ⊎ ((above ≤ most_levels) × (inside ≡ true) × (level ≡ above))
    ⊎ ((above ≤ most_levels) × (inside ≡ false) × (level ≡ above + 1))
