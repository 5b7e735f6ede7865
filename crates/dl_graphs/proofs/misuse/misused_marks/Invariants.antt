use Rattle.std.proofs.Common.{◌≡◌, ◌<◌, ◌↔◌, ℕ, List, true, false, get_or, length}
use Rattle.dl_rules.specs.Local.{HasMisusedDatatype}
use Rattle.owl_arena.specs.Held.{tree_at}
use Rattle.owl_tree.specs.Trees.{Tree}
use Rattle.dl_graphs.specs.Ranges.{AreRanges}
use Rattle.dl_graphs.proofs.misuse.misused_marks.Given as goal

abbrev pub invariant-loop-place : goal.invariant-loop-place
invariant-loop-place l = record {
  size : length l.marks.items ≡ l.place;
  told : (axs : List Tree) → AreRanges l.arena.trees axs l.table.entries → (k : ℕ) → k < length l.marks.items → (get_or l.marks.items k false ≡ true) ↔ HasMisusedDatatype axs (tree_at l.arena.trees k);
}
