use Rattle.std.proofs.Common.{◌<◌, arith, length, sym}
use Rattle.owl_list.proofs.AscendingLaws.{all_in, all_later}
use Rattle.owl_doc.proofs.SameTrees.{above_each, above_within}
use Rattle.dl_graphs.proofs.UseLaws.{used_among, used_here, used_next}
use Rattle.dl_graphs.proofs.uses.+used.Goals as goal

pub push_all_used-push_used-requires : goal.push_all_used-push_used-requires
push_all_used-push_used-requires t c =
    let id = c.id-item.result in
    let trees = length c.args.arena.now.trees in
    let below = above_each c.args.ids.now c.ids.id-index id c.ids-test.true in
    let within = all_in (λ id. id < trees) c.args.ids.now id c.requires.ids (c.ids.id-index, c.ids-test.true, sym c.id-item.is) in
    (omega arith, (c.requires.shared, within))

pub push_all_used-ids-preserved : goal.push_all_used-ids-preserved
push_all_used-ids-preserved t c =
    used_next c.args.arena.now.trees c.args.defined c.args.ids.now c.ids.id-index c.id-item.result c.args.pairs.now.items c.ids.pairs.items c.push_used.new.pairs.items c.ids-test.true c.id-item.is c.ids.invariant c.in_ok-push_used.ensures

pub push_used-push_all_used-requires : goal.push_used-push_all_used-requires
push_used-push_all_used-requires t c = (
  omega (arith, above_within c.args.id c.kids.result.now c.kids.ensures.below),
  (c.requires.shared, all_later (λ kid. kid < c.args.id) (λ kid. kid < length c.args.arena.now.trees) (λ kid h. omega arith) c.kids.result.now c.kids.ensures.below),
)

pub push_used-returns-in_ok-push-in-Some : goal.push_used-returns-in_ok-push-in-Some
push_used-returns-in_ok-push-in-Some t c =
    used_here c.args.arena.now.trees c.requires.shared.one_number c.args.defined c.args.id c.place.result c.in-Some.field-0.now c.args.pairs.now.items c.push.new.self.items c.requires.id c.place.ensures (sym c.in-Some.ensures) c.in_ok-push-in-Some.ensures.items

pub push_used-returns-in_ok-push_all_used-in-None : goal.push_used-returns-in_ok-push_all_used-in-None
push_used-returns-in_ok-push_all_used-in-None t c =
    used_among c.args.arena.now.trees c.args.defined c.args.id c.args.pairs.now.items c.push_all_used.new.pairs.items _ c.kids.ensures.kids (sym c.in-None.ensures) c.in_ok-push_all_used-in-None.ensures
