use Rattle.std.specs.Prelude.{◌+◌, ℕ, List, Contains, drop, get_or, take}
use Rattle.std.proofs.Common.{arith, subst, sym, ◌∙◌}
use Rattle.std.proofs.lemmas.List.{get_or_default, take_all, take_more}
use Rattle.rdf_annotations.specs.Annotations.{AreSetsSoFar}
use Rattle.rdf_roles.specs.OrderLaws.{is_of_node}
use Rattle.rdf_annotations.proofs.Ahead.{sets_below, split_at}
use Rattle.rdf_annotations.proofs.Passing.{all_passed}
use Rattle.rdf_annotations.proofs.annotated.Annotated.add_sets.Goals as goal

pub add_set-requires-clause-number : goal.add_set-requires-clause-number
add_set-requires-clause-number g c =
    let r = c.args.self.now.reading in
    let items = c.order-number-items.result.now in
    let i = c.loop-number.number-index in
    is_of_node r.graph.now r.roles.now c.requires.annotated.reading.table (get_or items i 0)
    (subst (λ (ns : List ℕ). Contains ns (get_or items i 0)) c.order-number-items.ensures (i, c.loop-number-test.true, get_or_default items i (get_or items i 0) 0 c.loop-number-test.true))

pub add_set-requires-clause-known : goal.add_set-requires-clause-known
add_set-requires-clause-known g c =
    let r = c.args.self.now.reading in
    let items = c.order-number-items.result.now in
    let i = c.loop-number.number-index in
    sets_below (g.S.TreeStore.stands c.loop-number.store) r.graph.now r.kinds.now r.header.now r.roles.now c.loop-number.sets.of_nodes.items c.loop-number.sets.empty
    (take i items) (drop (i + 1) items) (get_or items i 0) c.requires.annotated.reading.one_header c.requires.annotated.reading.formed c.requires.annotated.reading.table
    (sym c.order-number-items.ensures ∙ split_at items i c.loop-number-test.true) c.loop-number.invariant.0

pub loop-number-preserved : goal.loop-number-preserved
loop-number-preserved g c =
    let r = c.args.self.now.reading in
    let items = c.order-number-items.result.now in
    let i = c.loop-number.number-index in (
      subst (λ (ns : List ℕ). AreSetsSoFar (g.S.TreeStore.stands c.add_set.new.store) r.graph.now r.kinds.now r.roles.now ns c.add_set.new.sets.of_nodes.items c.add_set.new.sets.empty)
          (sym (take_more items i 0 c.loop-number-test.true)) (c.in_ok-add_set.ensures.sets (take i items) c.loop-number.invariant.0),
      λ t n s. c.add_set.ensures.kept t n (c.loop-number.invariant.1 t n s),
    )

pub returns-clause-sets : goal.returns-clause-sets
returns-clause-sets g c =
    let r = c.args.self.now.reading in
    let items = c.order-number-items.result.now in
    let i = c.loop-number.number-index in
    all_passed (g.S.TreeStore.stands c.loop-number.store) r.graph.now r.kinds.now r.roles.now (take i items) c.loop-number.sets.of_nodes.items c.loop-number.sets.empty c.loop-number.invariant.0
    c.requires.annotated.reading.table (take_all i items (omega (arith, c.loop-number-test.false)) ∙ c.order-number-items.ensures)
