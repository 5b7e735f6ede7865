use Rattle.std.proofs.Common.{◌≤◌, ◌++◌, map, take}
use Rattle.owl_arena.specs.Held.{trees_at}
use Rattle.owl_tree.specs.Canonical.{canonical}
use Rattle.rdf_normal.specs.Makings.{AreMade}
use Rattle.rdf_normal.specs.NormalForms.{pairs_in}
use Rattle.rdf_normal.proofs.spreading.add_pairs.Given as goal

abbrev pub invariant-members : goal.invariant-members
invariant-members l =
    (2 ≤ l.place) ×
    AreMade l.fn.arena.trees l.arena.trees l.made.items (trees_at l.fn.arena.trees l.fn.made.items ++ map canonical (pairs_in l.tag (trees_at l.fn.arena.trees (take l.place l.kids))))
