use Rattle.std.proofs.Common.{◌≡◌, ℕ, ◌<◌}
use Rattle.std.specs.Prelude.{slice_index}
use Rattle.owl_arena.specs.Held.{tree_at}
use Rattle.rdf_mapping.specs.Graphs.{bare}
use Rattle.rdf_forward.proofs.groups.group_len.Given as goal

abbrev pub invariant-loop-place : goal.invariant-loop-place
invariant-loop-place l = (k : ℕ) → k < l.place → bare (tree_at l.arena.trees (slice_index l.axioms 0)) ≡ bare (tree_at l.arena.trees (slice_index l.axioms k))
