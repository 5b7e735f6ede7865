use Rattle.std.proofs.Common.{filter, map, take}
use Rattle.owl_arena.specs.Held.{trees_at}
use Rattle.owl_tree.specs.Canonical.{canonical}
use Rattle.rdf_normal.specs.Makings.{AreMade}
use Rattle.rdf_normal.specs.NormalForms.{bare, is_annotated}
use Rattle.rdf_normal.proofs.needless.bare_forms.Given as goal

abbrev pub invariant-ids : goal.invariant-ids
invariant-ids l = AreMade l.fn.arena.trees l.arena.trees l.forms.items (map (λ t. canonical (bare t)) (filter is_annotated (trees_at l.fn.arena.trees (take l.id-index l.ids))))
