use Rattle.std.proofs.Common.{◌∙◌, ◌<◌, List, arith, ap, length, subst, sym}
use Rattle.owl_arena.specs.Held.{tree_at}
use Rattle.owl_list.proofs.AscendingLaws.{all_in, all_later}
use Rattle.owl_kind.specs.Kinds.{Entity}
use Rattle.owl_tree.specs.Trees.{Tree, kids_of}
use Rattle.owl_doc.specs.Entities.{FindsUndeclared, entities_of, entity_seen}
use Rattle.owl_doc.proofs.FirstUndeclared.{first_here, node_entities, one_more_typed}
use Rattle.owl_doc.proofs.SameTrees.{above_each, above_within}
use Rattle.owl_doc.proofs.typing.+undeclared.Goals as goal

pub first_undeclared-undeclared_in-requires : goal.first_undeclared-undeclared_in-requires
first_undeclared-undeclared_in-requires t c =
    let id = c.id-item.result in
    let trees = length c.args.arena.now.trees in
    let below = above_each c.args.ids.now c.ids.id-index id c.ids-test.true in
    let within = all_in (λ id. id < trees) c.args.ids.now id c.requires (c.ids.id-index, c.ids-test.true, sym c.id-item.is) in
    (omega arith, omega arith)

pub first_undeclared-returns-in-Some : goal.first_undeclared-returns-in-Some
first_undeclared-returns-in-Some t c =
    first_here c.args.kinds.now c.args.arena.now.trees c.args.ids.now c.ids.id-index c.id-item.result (entity_seen c.in-Some.found) c.ids-test.true c.id-item.is c.ids.invariant c.in-Some.ensures

pub first_undeclared-ids-preserved : goal.first_undeclared-ids-preserved
first_undeclared-ids-preserved t c =
    one_more_typed c.args.kinds.now c.args.arena.now.trees c.args.ids.now c.ids.id-index c.id-item.result c.ids-test.true c.id-item.is c.ids.invariant c.in_default.ensures

pub undeclared_in-first_undeclared-requires : goal.undeclared_in-first_undeclared-requires
undeclared_in-first_undeclared-requires t c = (
  omega (arith, above_within c.args.id c.kids.result.now c.kids.ensures.below),
  all_later (λ kid. kid < c.args.id) (λ kid. kid < length c.args.arena.now.trees) (λ kid h. omega arith) c.kids.result.now c.kids.ensures.below,
)

pub undeclared_in-returns-in-None : goal.undeclared_in-returns-in-None
undeclared_in-returns-in-None t c =
    let kids = ap (λ (us : List Tree). entities_of (kids_of us)) c.kids.ensures.kids ∙ node_entities (tree_at c.args.arena.now.trees c.args.id) c.in-None.ensures.atom in
    subst (λ (es : List Entity). FindsUndeclared c.args.kinds.now es c.first_undeclared.result) kids c.first_undeclared.ensures
