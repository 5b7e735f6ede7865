use Rattle.std.proofs.Common.{◌≡◌, ◌++◌, take}
use Rattle.std.specs.List.{flat_map}
use Rattle.owl_arena.specs.Held.{tree_at}
use Rattle.fss_write.specs.Text.{item_line}
use Rattle.fss_write.proofs.lines.add_items.Given as goal

-- the lines so far
abbrev pub invariant-loop-id : goal.invariant-loop-id
invariant-loop-id l = l.draft ≡ l.fn.draft ++ flat_map (λ id. item_line l.prefixes (tree_at l.arena.trees id)) (take l.id-index l.ids)
