-- Graphs as lists of triples (RDF 1.1 Concepts and Abstract Syntax, section 3).
use Rattle.std.specs.Prelude.{◌≡◌, ◌≢◌, ◌<◌, ◌≤◌, ◌^◌, ℕ, List, Option, Some, length, option_map, slice_get}
use Rattle.owl_list.specs.Ascending.{ascending, IsAscending}
use Rattle.rdf_graph.specs.declared.term.Term.{Term}
use Rattle.rdf_graph.specs.declared.triple.Triple.{Triple}
use Rattle.rdf_graph.specs.Terms.{HaveSubjects, triple_cmp}

-- a graph has so many triples at most
abbrev pub most_triples : ℕ
most_triples = 2 ^ 24

-- what every graph is
pub record IsGraph (triples : List Triple) : Type 0 where
  pub ascending : IsAscending triple_cmp triples
  pub few : length triples ≤ most_triples
  pub subjects : HaveSubjects triples

-- the set of the triples of a list: each once, in ascending order
abbrev pub set_of : List Triple → List Triple
set_of = ascending triple_cmp

-- the subject and the object of the triple at a place, where one stands there
abbrev pub subject_at : List Triple → ℕ → Option Term
subject_at triples place = option_map (λ t. t.subject) (slice_get triples place)

abbrev pub object_at : List Triple → ℕ → Option Term
object_at triples place = option_map (λ t. t.object) (slice_get triples place)

-- from a place on, no triple has this object
abbrev pub HasNoneWith : List Triple → Term → ℕ → Type 0
HasNoneWith triples object from = (place : ℕ) → from ≤ place → object_at triples place ≢ Some object

-- the next place, from one on, of a triple with this object
pub record IsNextWith (triples : List Triple) (object : Term) (from place : ℕ) : Type 0 where
  pub behind : from ≤ place
  pub stands : object_at triples place ≡ Some object
  pub next : (other : ℕ) → from ≤ other → other < place → object_at triples other ≢ Some object
