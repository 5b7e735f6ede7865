use Rattle.std.proofs.Common.{◌++◌, map, take}
use Rattle.owl_arena.specs.Held.{trees_at}
use Rattle.owl_tree.specs.Canonical.{canonical}
use Rattle.rdf_normal.specs.Makings.{AreMade}
use Rattle.rdf_normal.specs.NormalForms.{annotation_of}
use Rattle.rdf_normal.proofs.own.annotations.Given as goal

abbrev pub invariant-own : goal.invariant-own
invariant-own l = AreMade l.fn.arena.trees l.arena.trees l.made.items (trees_at l.fn.arena.trees l.notes ++ map (λ t. canonical (annotation_of t)) (trees_at l.fn.arena.trees (take l.id-index l.own)))
