use Rattle.std.proofs.Common.{◌<◌, ◌∙◌, ap, arith, length, sym}
use Rattle.owl_canon.proofs.Putting.{if_err_later, on_ok_later, passed_with}
use Rattle.owl_canon.proofs.PuttingTrees.{node_countable, node_stops, node_taken, one_tree_stops}
use Rattle.owl_doc.proofs.SameTrees.{above_each, above_within}
use Rattle.owl_list.proofs.AscendingLaws.{all_in, all_later}
use Rattle.owl_tree.specs.Tags.{number_of}
use Rattle.owl_canon.proofs.writing.+putting.Goals as goal

pub put_each_tree-put_tree-requires : goal.put_each_tree-put_tree-requires
put_each_tree-put_tree-requires t c =
    let trees = length c.args.arena.now.trees in
    let id = c.id-item.result in
    let a = above_each c.args.ids.now c.ids.id-index id c.ids-test.true in
    let h = all_in (λ k. k < trees) c.args.ids.now id c.requires (c.ids.id-index, c.ids-test.true, sym c.id-item.is) in
    (omega arith, omega arith)

pub put_each_tree-returns-in_err-put_tree-clause-stopped : goal.put_each_tree-returns-in_err-put_tree-clause-stopped
put_each_tree-returns-in_err-put_tree-clause-stopped t c =
    let fault = c.in_err-put_tree.field-0.0 in
    passed_with c.from_residual.result fault _ c.from_residual.ensures.1
    (one_tree_stops c.args.arena.now.trees c.args.ids.now c.args.sink.now c.ids.sink c.ids.id-index c.id-item.result fault c.ids.invariant c.ids-test.true c.id-item.is c.in_err-put_tree.ensures.stopped)

pub put_tree-put_each_tree-requires : goal.put_tree-put_each_tree-requires
put_tree-put_each_tree-requires t c =
    let trees = length c.args.arena.now.trees in (
      omega (arith, above_within c.args.id c.kids-kids.result.now c.kids-kids.ensures.below),
      all_later (λ k. k < c.args.id) (λ k. k < trees) (λ k h. omega arith) c.kids-kids.result.now c.kids-kids.ensures.below,
    )

pub put_tree-returns-in_ok-put_number-in-None-clause-taken : goal.put_tree-returns-in_ok-put_number-in-None-clause-taken
put_tree-returns-in_ok-put_number-in-None-clause-taken t c =
    let ts = c.args.arena.now.trees in
    on_ok_later c.put_each_tree.result _ _ (λ h. node_taken ts c.args.id c.kids-kids.result.now c.in-None.ensures.atom c.kids-kids.ensures.kids c.args.sink.now c.put.new.self c.put_number.new.sink c.put_each_tree.new.sink c.number.result (c.number.ensures ∙ ap number_of c.tag.ensures) c.in_ok-put.ensures.taken c.in_ok-put_number-in-None.ensures.taken h)
    c.put_each_tree.ensures.taken

pub put_tree-returns-in_ok-put_number-in-None-clause-stopped : goal.put_tree-returns-in_ok-put_number-in-None-clause-stopped
put_tree-returns-in_ok-put_number-in-None-clause-stopped t c =
    let ts = c.args.arena.now.trees in
    if_err_later c.put_each_tree.result _ _ (λ fault h. node_stops ts c.args.id c.kids-kids.result.now c.in-None.ensures.atom c.kids-kids.ensures.kids c.args.sink.now c.put.new.self c.put_number.new.sink fault c.number.result (c.number.ensures ∙ ap number_of c.tag.ensures) c.in_ok-put.ensures.taken c.in_ok-put_number-in-None.ensures.taken h)
    c.put_each_tree.ensures.stopped

pub put_tree-returns-in_ok-put_number-in-None-clause-countable : goal.put_tree-returns-in_ok-put_number-in-None-clause-countable
put_tree-returns-in_ok-put_number-in-None-clause-countable t c =
    let ts = c.args.arena.now.trees in
    on_ok_later c.put_each_tree.result _ _ (node_countable ts c.args.id c.kids-kids.result.now c.in-None.ensures.atom c.kids-kids.ensures.kids (omega arith)) c.put_each_tree.ensures.countable
