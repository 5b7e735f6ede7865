use Rattle.std.proofs.Common.{◌≡◌, List, Bool, true, length, subst}
use Rattle.dl_rules.specs.Properties.{property_in}
use Rattle.graph_walks.specs.Marks.{MarkNumbers}
use Rattle.owl_arena.specs.Held.{tree_at}
use Rattle.property_hierarchy.specs.Listed.{mark_of}
use Rattle.property_hierarchy.proofs.Reaching.{composite_marks}
use Rattle.property_hierarchy.proofs.order.composite_properties.Goals as goal

pub returns : goal.returns
returns c =
    let ts = c.args.arena.now.trees in
    composite_marks ts c.open_kids.ensures.shared c.open_kids.ensures.kids c.args.axioms.now c.requires.axioms c.in_ok-nodes.nodes.items c.in_ok-tree_marks.field-0.items c.in_ok-nodes.ensures
    (subst (λ (nodes : List Bool). MarkNumbers (length ts) (λ id. mark_of ts nodes (property_in (tree_at ts id)) ≡ true) c.in_ok-tree_marks.field-0.items) c.deref.ensures.value c.in_ok-tree_marks.ensures)
