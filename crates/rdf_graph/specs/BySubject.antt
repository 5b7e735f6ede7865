-- Where the triples with a subject begin and end.
use Rattle.std.specs.Prelude.{◌≡◌, ◌≤◌, ℕ, List, length, true, false}
use Rattle.std.specs.List.Sorted.{IsPartitionPoint}
use Rattle.std.specs.Ordering.{is_le, is_lt}
use Rattle.rdf_graph.specs.declared.term.Term.{Term}
use Rattle.rdf_graph.specs.declared.triple.Triple.{Triple}
use Rattle.rdf_graph.specs.Terms.{term_cmp}

-- so many triples have a lesser subject, and the others stand behind them
pub record IsCountBelow (term : Term) (count : ℕ) (triples : List Triple) : Type 0 where
  pub bound : count ≤ length triples
  pub parted : IsPartitionPoint (λ t. is_lt (term_cmp t.subject term) ≡ true) (λ t. is_lt (term_cmp t.subject term) ≡ false) triples count

-- so many have this subject or a lesser one
pub record IsCountUpTo (term : Term) (count : ℕ) (triples : List Triple) : Type 0 where
  pub bound : count ≤ length triples
  pub parted : IsPartitionPoint (λ t. is_le (term_cmp t.subject term) ≡ true) (λ t. is_le (term_cmp t.subject term) ≡ false) triples count
