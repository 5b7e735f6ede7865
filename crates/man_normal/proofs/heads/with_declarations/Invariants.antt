use Rattle.std.proofs.Common.{take, ◌++◌}
use Rattle.std.specs.List.{flat_map}
use Rattle.man_resolve.specs.Expressions.{knows}
use Rattle.man_text.specs.Blocks.{headed}
use Rattle.owl_arena.specs.Held.{trees_at}
use Rattle.rdf_normal.specs.Makings.{AreMade}
use Rattle.man_normal.proofs.heads.with_declarations.Given as goal

abbrev pub invariant-axioms : goal.invariant-axioms
invariant-axioms l =
    AreMade l.fn.arena.trees l.arena.trees l.made.items (trees_at l.fn.arena.trees l.axioms ++ flat_map (headed (knows l.kinds)) (trees_at l.fn.arena.trees (take l.id-index l.axioms)))
