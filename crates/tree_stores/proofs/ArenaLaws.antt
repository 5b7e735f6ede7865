-- What stands in an arena is within its limits.
use Rattle.std.specs.Prelude.{◌≡◌, ◌≤◌, ℕ, List}
use Rattle.std.proofs.Common.{subst}
use Rattle.std.proofs.lemmas.Option.{get_or_from_slice_get, slice_get_within}
use Rattle.owl_arena.specs.Held.{tree_at}
use Rattle.owl_arena.proofs.HeldLaws.{entry_at}
use Rattle.owl_arena.specs.Shared.{AreShared, IsEntry, deepest}
use Rattle.owl_tree.specs.Canonical.{canonical}
use Rattle.owl_tree.proofs.CanonicalLaws.{canonical_depth}
use Rattle.owl_tree.specs.Trees.{Tree}
use Rattle.tree_stores.specs.Stores.{HasNumber, IsSmall}

pub held_are_small : (trees : List Tree) → AreShared trees → (t : Tree) (id : ℕ) → HasNumber trees t id → IsSmall t
held_are_small trees shared t id at =
    let here : tree_at trees id ≡ canonical t = get_or_from_slice_get trees id (canonical t) _ at in
    let entry = subst IsEntry here (entry_at trees id shared (slice_get_within trees id (canonical t) at)) in
    record { shallow = subst (λ n. n ≤ deepest) (canonical_depth t) entry.depth; light = entry.weight }
