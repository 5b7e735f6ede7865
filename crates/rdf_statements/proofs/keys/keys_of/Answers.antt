use Rattle.std.proofs.Common.{◌+◌, ap, arith, not, refl}
use Rattle.std.proofs.lemmas.Bool.{false_from_ne_true}
use Rattle.rdf_asked.proofs.ListedLaws.{walk_ends, walk_fails, walk_goes_on, walk_is_long}
use Rattle.rdf_statements.proofs.Finding.{key_is}
use Rattle.rdf_statements.proofs.Forming.{all_keys, next_key}
use Rattle.rdf_statements.proofs.keys.keys_of.Goals as goal

pub loop-count-preserved : goal.loop-count-preserved
loop-count-preserved c =
    let g = c.args.source.now.graph.now in
    let k = c.args.source.now.kinds.now in
    let roles = c.args.source.now.roles.now in
    let old = c.loop-count.keys in
    let new = c.add_key.new.keys in
    let cell = c.in-Some.ensures.cell in
    let added = c.in_ok-add_key.ensures.added c.if-not-branch.false in (
      next_key g k roles c.args.list.now old.of_objects.items old.of_data.items c.loop-count.rest.now c.in-Some.first.now c.in-Some.behind.now new.of_objects.items new.of_data.items
          c.loop-count.invariant.0 cell added,
      walk_goes_on c.loop-count.invariant.1 c.in-Some.first.now c.in-Some.behind.now (c.loop-count.count + 1) cell.list cell.one_first cell.one_rest
          (key_is g k roles c.in-Some.first.now old.of_objects.items old.of_data.items new.of_objects.items new.of_data.items added) refl,
    )

pub returns-then-is_nil-clause-keys : goal.returns-then-is_nil-clause-keys
returns-then-is_nil-clause-keys c =
    all_keys c.args.source.now.graph.now c.args.source.now.kinds.now c.args.source.now.roles.now c.args.list.now c.loop-count.keys.of_objects.items c.loop-count.keys.of_data.items
    c.loop-count.rest.now c.loop-count.invariant.0 (c.is_nil.ensures.0 c.if-is_nil.true)

pub returns-else-is_nil-clause-none : goal.returns-else-is_nil-clause-none
returns-else-is_nil-clause-none c = λ formed _ list.
    let is = (walk_ends c.loop-count.invariant.1 0 c.is_nil.result (omega arith) (c.in_default.ensures.none formed refl) c.is_nil.ensures).1 list in
    let isnt = c.if-is_nil.false in
    cc

pub returns-then-not-branch-clause-none : goal.returns-then-not-branch-clause-none
returns-then-not-branch-clause-none c = λ formed _ list.
    let cell = c.in-Some.ensures.cell in
    let other = false_from_ne_true _ (c.in_ok-add_key.ensures.none (ap not c.if-not-branch.true)) in
    let fails = (walk_fails c.loop-count.invariant.1 c.in-Some.first.now c.in-Some.behind.now 0 cell.list cell.one_first cell.one_rest other).1 list in
    cc

pub returns-clause-none : goal.returns-clause-none
returns-clause-none c = λ formed _ list.
    let fails =
    (walk_is_long c.args.source.now.graph.now formed c.loop-count.invariant.1 (omega (arith, c.len-count-end.ensures.len, c.loop-count.auto.count-end, c.loop-count-test.false)) 0).1 list in
    cc
