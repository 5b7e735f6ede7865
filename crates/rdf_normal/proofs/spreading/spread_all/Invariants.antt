use Rattle.std.proofs.Common.{map, take}
use Rattle.std.specs.Prelude.{flat_map}
use Rattle.owl_arena.specs.Held.{trees_at}
use Rattle.owl_tree.specs.Canonical.{canonical}
use Rattle.rdf_normal.specs.Makings.{AreMade}
use Rattle.rdf_normal.specs.NormalForms.{spread}
use Rattle.rdf_normal.proofs.spreading.spread_all.Given as goal

abbrev pub invariant-ids : goal.invariant-ids
invariant-ids l = AreMade l.fn.arena.trees l.arena.trees l.made.items (map canonical (flat_map spread (trees_at l.fn.arena.trees (take l.id-index l.ids))))
