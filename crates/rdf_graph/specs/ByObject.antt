-- The places of triples in the order of their objects.
use Rattle.std.specs.Prelude.{◌≡◌, ◌↔◌, ◌<◌, ◌≤◌, ℕ, Bool, true, false, List, Some, Contains, length}
use Rattle.std.specs.declared.cmp.Ordering.{Ordering}
use Rattle.std.specs.List.Sorted.{IsPartitionPoint, IsSorted}
use Rattle.std.specs.Option.{option_cmp}
use Rattle.std.specs.Ordering.{is_lt, nat_cmp, on, ordering_then, then_cmp}
use Rattle.rdf_graph.specs.declared.term.Term.{Term}
use Rattle.rdf_graph.specs.declared.triple.Triple.{Triple}
use Rattle.rdf_graph.specs.Graphs.{object_at}
use Rattle.rdf_graph.specs.Terms.{term_cmp}

-- by object, places of no triple first, and then by place
abbrev pub place_cmp : List Triple → ℕ → ℕ → Ordering
place_cmp triples = then_cmp (on (object_at triples) (option_cmp term_cmp)) nat_cmp

-- the place has a lesser object than this one, or this one and is before `from`
abbrev pub is_before : List Triple → Term → ℕ → ℕ → Bool
is_before triples object from place =
    is_lt (ordering_then (option_cmp term_cmp (object_at triples place) (Some object)) (nat_cmp place from))

-- so many of the places are before, and the others stand behind them
pub record IsCountBefore (triples : List Triple) (places : List ℕ) (object : Term) (from count : ℕ) : Type 0 where
  pub bound : count ≤ length places
  pub parted : IsPartitionPoint (λ place. is_before triples object from place ≡ true) (λ place. is_before triples object from place ≡ false) places count

-- the places of all triples, by object and then by place
pub record IsIndex (triples : List Triple) (places : List ℕ) : Type 0 where
  pub sorted : IsSorted (place_cmp triples) places
  pub of_all : (place : ℕ) → Contains places place ↔ (place < length triples)
