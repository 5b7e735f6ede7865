-- Lists that ascend by a key, in which a place is found by halving.
use Rattle.std.proofs.Common.{List}
use Rattle.std.specs.declared.cmp.Ordering.{Ordering}
use Rattle.std.specs.Cmp.{IsTotalOrder}
use Rattle.std.specs.List.Sorted.{IsPartitionedBy, IsSortedByKey}
use Rattle.std.specs.Ordering.{is_le, is_lt}
use Rattle.std.proofs.lemmas.List.Sorted.{searchable_from_sorted}
use Rattle.rdf_graph.proofs.Comparisons.{le_below, lt_below}

module _ {X K : Type 0} (key : X → K) (R : K → K → Ordering) (total : IsTotalOrder R) (xs : List X) (up : IsSortedByKey key R xs) (k : K) where
  -- those of lesser keys stand in front
  pub parted_below : IsPartitionedBy (λ x. is_lt (R (key x) k)) xs
  parted_below i j d le lt = lt_below _ _ (searchable_from_sorted total key xs k up i j d le lt)

  -- and those of this key next
  pub parted_up_to : IsPartitionedBy (λ x. is_le (R (key x) k)) xs
  parted_up_to i j d le lt = le_below _ _ (searchable_from_sorted total key xs k up i j d le lt)
