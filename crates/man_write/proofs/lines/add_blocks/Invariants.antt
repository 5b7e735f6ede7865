use Rattle.std.proofs.Common.{◌≡◌, ◌++◌, take}
use Rattle.std.specs.List.{flat_map}
use Rattle.man_resolve.specs.Expressions.{knows}
use Rattle.owl_arena.specs.Held.{tree_at}
use Rattle.man_write.specs.Plans.{block_of_text}
use Rattle.man_write.proofs.lines.add_blocks.Given as goal

-- the blocks so far
abbrev pub invariant-loop-id : goal.invariant-loop-id
invariant-loop-id l = l.draft ≡ l.fn.draft ++ flat_map (λ id. block_of_text (knows l.kinds) l.prefixes (tree_at l.arena.trees id)) (take l.id-index l.ids)
