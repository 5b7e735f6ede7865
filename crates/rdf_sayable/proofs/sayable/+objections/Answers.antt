use Rattle.std.proofs.Common.{◌∙◌, ◌<◌, List, arith, ap, length, sym}
use Rattle.owl_arena.specs.Held.{tree_at}
use Rattle.owl_list.proofs.AscendingLaws.{all_in, all_later}
use Rattle.owl_tree.specs.Trees.{Tree, kids_of}
use Rattle.owl_doc.specs.Parts.{leaves_of}
use Rattle.sayable_parts.specs.Reasons.{why_seen}
use Rattle.rdf_sayable.specs.Sayable.{first_objection}
use Rattle.sayable_parts.proofs.WalkLaws.{above_each, above_within, all_said, one_more_said, said_first}
use Rattle.rdf_sayable.proofs.Searching.{along_trees, node_objection, objection_at}
use Rattle.rdf_sayable.proofs.sayable.+objections.Goals as goal

pub tree_objection-trees_objection-requires : goal.tree_objection-trees_objection-requires
tree_objection-trees_objection-requires t c = (
  omega (arith, above_within c.args.id c.kids.result.now c.kids.ensures.below),
  all_later (λ kid. kid < c.args.id) (λ kid. kid < length c.args.arena.now.trees) (λ kid h. omega arith) c.kids.result.now c.kids.ensures.below,
)

pub tree_objection-returns-in-None : goal.tree_objection-returns-in-None
tree_objection-returns-in-None t c =
    c.trees_objection.ensures
    ∙ ap (λ (us : List Tree). first_objection (leaves_of (kids_of us))) c.kids.ensures.kids
    ∙ node_objection (tree_at c.args.arena.now.trees c.args.id) c.in-None.ensures.atom

pub trees_objection-tree_objection-requires : goal.trees_objection-tree_objection-requires
trees_objection-tree_objection-requires t c =
    let id = c.id-item.result in
    let trees = length c.args.arena.now.trees in
    let below = above_each c.args.ids.now c.ids.id-index id c.ids-test.true in
    let within = all_in (λ id. id < trees) c.args.ids.now id c.requires (c.ids.id-index, c.ids-test.true, sym c.id-item.is) in
    (omega arith, omega arith)

pub trees_objection-returns-in-Some : goal.trees_objection-returns-in-Some
trees_objection-returns-in-Some t c =
    said_first (objection_at c.args.arena.now.trees) c.args.ids.now c.ids.id-index c.id-item.result (why_seen c.in-Some.why) c.ids-test.true c.id-item.is c.ids.invariant c.in-Some.ensures
    ∙ along_trees c.args.arena.now.trees c.args.ids.now

pub trees_objection-ids-preserved : goal.trees_objection-ids-preserved
trees_objection-ids-preserved t c =
    one_more_said (objection_at c.args.arena.now.trees) c.args.ids.now c.ids.id-index c.id-item.result c.ids-test.true c.id-item.is c.ids.invariant c.in_default.ensures

pub trees_objection-returns : goal.trees_objection-returns
trees_objection-returns t c =
    all_said (objection_at c.args.arena.now.trees) c.args.ids.now c.ids.id-index (omega (arith, c.ids-test.false)) c.ids.invariant
    ∙ along_trees c.args.arena.now.trees c.args.ids.now
