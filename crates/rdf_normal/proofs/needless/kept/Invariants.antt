use Rattle.std.proofs.Common.{◌≡◌, filter, not, take}
use Rattle.owl_arena.specs.Held.{AreHeld, trees_at}
use Rattle.rdf_normal.specs.NormalForms.{is_needless}
use Rattle.rdf_normal.proofs.needless.kept.Given as goal

abbrev pub invariant-ids : goal.invariant-ids
invariant-ids l =
    (trees_at l.arena.trees l.kept.items ≡ filter (λ t. not (is_needless (trees_at l.arena.trees l.ids) t)) (trees_at l.arena.trees (take l.id-index l.ids)))
    × AreHeld l.arena.trees l.kept.items
