use Rattle.std.proofs.Common.{take, map, ◌++◌}
use Rattle.owl_arena.specs.Held.{trees_at}
use Rattle.owl_declare.specs.Needed.{declarations, entity_of}
use Rattle.rdf_normal.specs.Makings.{AreMade}
use Rattle.owl_declare.proofs.declaring.declare_each.Given as goal

abbrev pub invariant-needs : goal.invariant-needs
invariant-needs l =
    AreMade l.fn.arena.trees l.arena.trees l.made.items (trees_at l.fn.arena.trees l.axioms ++ declarations (map entity_of (take l.need-index l.needs)))
