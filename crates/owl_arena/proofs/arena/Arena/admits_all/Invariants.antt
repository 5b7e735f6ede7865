use Rattle.std.proofs.Common.{◌≡◌, drop}
use Rattle.owl_arena.specs.Members.{tags_at}
use Rattle.owl_tree.specs.Places.{admits_from}
use Rattle.owl_tree.specs.Rows.{row_seen}
use Rattle.owl_arena.proofs.arena.Arena.admits_all.Given as goal

abbrev pub invariant-loop-place : goal.invariant-loop-place
invariant-loop-place l = admits_from (row_seen l.row) l.place (tags_at l.self.trees (drop l.place l.kids)) ≡ admits_from (row_seen l.row) 0 (tags_at l.self.trees l.kids)
