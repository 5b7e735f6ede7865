use Rattle.std.proofs.Common.{◌≡◌, ℕ, List, Bool, true, length, arith, subst, sym}
use Rattle.dl_rules.specs.Properties.{property_in}
use Rattle.graph_walks.specs.Marks.{MarkNumbers}
use Rattle.owl_arena.specs.Held.{tree_at}
use Rattle.property_hierarchy.specs.Listed.{mark_of}
use Rattle.property_hierarchy.proofs.Reaching.{no_marks, tree_marked}
use Rattle.property_hierarchy.proofs.order.tree_marks.Goals as goal

pub places-init : goal.places-init
places-init c = subst (λ (marks : List Bool). MarkNumbers 0 (λ id. mark_of c.args.arena.now.trees c.args.nodes.now (property_in (tree_at c.args.arena.now.trees id)) ≡ true) marks) (sym c.new-marks.ensures.items) (no_marks _)

pub places-preserved : goal.places-preserved
places-preserved c =
    tree_marked c.args.arena.now.trees c.args.nodes.now c.places.place c.at.result c.places.marks.items _ c.tree_mark.result c.places.invariant c.at.ensures c.tree_mark.ensures c.in_ok-push.ensures.items

pub returns : goal.returns
returns c =
    let all : c.places.place ≡ length c.args.arena.now.trees = omega arith in
    subst (λ (n : ℕ). MarkNumbers n (λ id. mark_of c.args.arena.now.trees c.args.nodes.now (property_in (tree_at c.args.arena.now.trees id)) ≡ true) c.places.marks.items) all c.places.invariant
