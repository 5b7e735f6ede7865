use Rattle.std.proofs.Common.{take, map, ◌++◌}
use Rattle.owl_arena.specs.Held.{trees_at}
use Rattle.owl_declarations.specs.Declarations.{declaration}
use Rattle.rdf_normal.specs.Makings.{AreMade}
use Rattle.owl_declarations.proofs.declaring.declare_all.Given as goal

abbrev pub invariant-iris : goal.invariant-iris
invariant-iris l =
    AreMade l.fn.arena.trees l.arena.trees l.made.items (trees_at l.fn.arena.trees l.axioms ++ map (declaration l.kind) (take l.iri-index l.iris))
