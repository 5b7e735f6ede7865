use Rattle.std.proofs.Common.{◌≡◌, true}
use Rattle.dl_rules.specs.Properties.{property_in}
use Rattle.graph_walks.specs.Marks.{MarkNumbers}
use Rattle.owl_arena.specs.Held.{tree_at}
use Rattle.property_hierarchy.specs.Listed.{mark_of}
use Rattle.property_hierarchy.proofs.order.tree_marks.Given as goal

abbrev pub invariant-places : goal.invariant-places
invariant-places l = MarkNumbers l.place (λ id. mark_of l.arena.trees l.nodes (property_in (tree_at l.arena.trees id)) ≡ true) l.marks.items
