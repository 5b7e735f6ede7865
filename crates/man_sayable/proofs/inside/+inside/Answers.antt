use Rattle.std.proofs.Common.{◌∙◌, ◌<◌, List, arith, ap, length, sym}
use Rattle.owl_arena.specs.Held.{tree_at}
use Rattle.owl_list.proofs.AscendingLaws.{all_in, all_later}
use Rattle.owl_tree.specs.Trees.{Tree, kids_of}
use Rattle.sayable_parts.proofs.WalkLaws.{above_each, above_within, all_said, one_more_said, said_first}
use Rattle.sayable_parts.specs.Reasons.{why_seen}
use Rattle.man_sayable.specs.Sayable.{kids_objection}
use Rattle.man_sayable.proofs.InsideSearch.{along_kids, kids_next, objection_at, own_first}
use Rattle.man_sayable.proofs.inside.+inside.Goals as goal

pub inner_objection-kids_objection-requires : goal.inner_objection-kids_objection-requires
inner_objection-kids_objection-requires t c = (
  omega (arith, above_within c.args.id c.kids.result.now c.kids.ensures.below),
  all_later (λ kid. kid < c.args.id) (λ kid. kid < length c.args.arena.now.trees) (λ kid h. omega arith) c.kids.result.now c.kids.ensures.below,
)

pub inner_objection-returns-in-Some : goal.inner_objection-returns-in-Some
inner_objection-returns-in-Some t c = own_first c.args.look (tree_at c.args.arena.now.trees c.args.id) (why_seen c.in-Some.why) c.in-Some.ensures

pub inner_objection-returns : goal.inner_objection-returns
inner_objection-returns t c =
    c.kids_objection.ensures
    ∙ ap (λ (us : List Tree). kids_objection c.args.look (kids_of us)) c.kids.ensures.kids
    ∙ kids_next c.args.look (tree_at c.args.arena.now.trees c.args.id) c.in_default.ensures

pub kids_objection-inner_objection-requires : goal.kids_objection-inner_objection-requires
kids_objection-inner_objection-requires t c =
    let id = c.id-item.result in
    let trees = length c.args.arena.now.trees in
    let below = above_each c.args.ids.now c.ids.id-index id c.ids-test.true in
    let within = all_in (λ id. id < trees) c.args.ids.now id c.requires (c.ids.id-index, c.ids-test.true, sym c.id-item.is) in
    (omega arith, omega arith)

pub kids_objection-returns-in-Some : goal.kids_objection-returns-in-Some
kids_objection-returns-in-Some t c =
    said_first (objection_at c.args.look c.args.arena.now.trees) c.args.ids.now c.ids.id-index c.id-item.result (why_seen c.in-Some.why) c.ids-test.true c.id-item.is c.ids.invariant c.in-Some.ensures
    ∙ along_kids c.args.look c.args.arena.now.trees c.args.ids.now

pub kids_objection-ids-preserved : goal.kids_objection-ids-preserved
kids_objection-ids-preserved t c =
    one_more_said (objection_at c.args.look c.args.arena.now.trees) c.args.ids.now c.ids.id-index c.id-item.result c.ids-test.true c.id-item.is c.ids.invariant c.in_default.ensures

pub kids_objection-returns : goal.kids_objection-returns
kids_objection-returns t c =
    all_said (objection_at c.args.look c.args.arena.now.trees) c.args.ids.now c.ids.id-index (omega (arith, c.ids-test.false)) c.ids.invariant
    ∙ along_kids c.args.look c.args.arena.now.trees c.args.ids.now
