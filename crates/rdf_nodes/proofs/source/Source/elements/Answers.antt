use Rattle.std.proofs.Common.{rules, ◌≡◌, ◌+◌, ◌∷◌, ◌++◌, [], arith, refl, subst, sym, IfSome, IsNone}
use Rattle.std.proofs.lemmas.Bool.{false_from_ne_true}
use Rattle.rdf_asked.proofs.ListedLaws.{walk_ends, walk_fails, walk_goes_on, walk_is_long}
use Rattle.rdf_faults.specs.WantLaws.{met}
use Rattle.rdf_meaning.specs.declared.row.Want.TheVariants.{Many}
use Rattle.rdf_nodes.proofs.OfSortLaws.{found_is_of_sort}
use Rattle.rdf_nodes.specs.Operands.{IsOperand}
use Rattle.rdf_nodes.proofs.Denoting.{list_goes_on, listed, no_list}
use Rattle.rdf_nodes.proofs.Lengths.{walk_too_long}
use Rattle.rdf_nodes.proofs.Steps.{AreElementsBefore, all_elements, next_element}
use Rattle.rdf_nodes.proofs.source.Source.elements.Goals as goal

pub loop-count-preserved : goal.loop-count-preserved
loop-count-preserved c =
    let g = c.args.self.now.graph.now in
    let k = c.args.self.now.kinds.now in
    let roles = c.args.self.now.roles.now in
    let items : c.push.new.self.items ≡ c.loop-count.operands.items ++ c.in-Some-2.operand ∷ [] = search rules in
    let found = subst (λ f. IfSome f (IsOperand g k roles c.args.sort c.in-Some.first.now)) c.in-Some-2.is c.in_ok-operand.ensures.operand in
    let cell = c.in-Some.ensures.cell in (
      subst (λ os. AreElementsBefore g k roles c.args.sort c.args.list.now os c.in-Some.behind.now) (sym items)
          (next_element g k roles c.args.sort c.args.list.now c.loop-count.operands.items c.loop-count.rest.now c.in-Some.first.now c.in-Some.behind.now c.in-Some-2.operand
          c.loop-count.invariant.0 cell found),
      walk_goes_on c.loop-count.invariant.1 c.in-Some.first.now c.in-Some.behind.now (c.loop-count.count + 1) cell.list cell.one_first cell.one_rest
          (found_is_of_sort g k roles c.args.sort c.in-Some.first.now c.in-Some-2.operand found) refl,
      λ listed. (list_goes_on g k c.args.sort c.loop-count.rest.now c.in-Some.first.now c.in-Some.behind.now cell (c.loop-count.invariant.2 listed)).1,
    )

pub returns-then-is_nil-clause-elements : goal.returns-then-is_nil-clause-elements
returns-then-is_nil-clause-elements c =
    all_elements c.args.self.now.graph.now c.args.self.now.kinds.now c.args.self.now.roles.now c.args.sort c.args.list.now c.loop-count.operands.items c.loop-count.rest.now
    c.loop-count.invariant.0 (c.is_nil.ensures.0 c.if-is_nil.true)

pub returns-else-is_nil-clause-none : goal.returns-else-is_nil-clause-none
returns-else-is_nil-clause-none c = λ formed _ _ list.
    let is = (walk_ends c.loop-count.invariant.1 0 c.is_nil.result (omega arith) (c.in_default.ensures.none formed refl) c.is_nil.ensures).1 list in
    let isnt = c.if-is_nil.false in
    cc

pub returns-in_default-2-clause-none : goal.returns-in_default-2-clause-none
returns-in_default-2-clause-none c = λ formed told _ list.
    let cell = c.in-Some.ensures.cell in
    let not = false_from_ne_true _ (c.in_ok-operand.ensures.none (subst IsNone (sym c.in_default-2.is) refl) told) in
    let fails = (walk_fails c.loop-count.invariant.1 c.in-Some.first.now c.in-Some.behind.now 0 cell.list cell.one_first cell.one_rest not).1 list in
    cc

pub returns-clause-none : goal.returns-clause-none
returns-clause-none c = λ formed _ _ list.
    let fails =
    (walk_is_long c.args.self.now.graph.now formed c.loop-count.invariant.1 (omega (arith, c.len-count-end.ensures.len, c.loop-count.auto.count-end, c.loop-count-test.false)) 0).1 list in
    cc

pub returns-else-is_nil-clause-no_list : goal.returns-else-is_nil-clause-no_list
returns-else-is_nil-clause-no_list c = λ _ _ ts d.
    let g = c.args.self.now.graph.now in
    let k = c.args.self.now.kinds.now in
    no_list g k c.args.sort c.loop-count.rest.now (c.in_default.ensures.no_cell refl)
    (λ is. let nil = c.is_nil.ensures.1 is in let isnt = c.if-is_nil.false in cc)
    (c.loop-count.invariant.2 (listed g k c.args.sort c.args.list.now ts d))

pub returns-in_default-2-clause-no_list : goal.returns-in_default-2-clause-no_list
returns-in_default-2-clause-no_list c = λ _ wanted ts d.
    let g = c.args.self.now.graph.now in
    let k = c.args.self.now.kinds.now in
    let first = c.in-Some.first.now in
    let on = list_goes_on g k c.args.sort c.loop-count.rest.now first c.in-Some.behind.now c.in-Some.ensures.cell (c.loop-count.invariant.2 (listed g k c.args.sort c.args.list.now ts d)) in
    c.in_ok-operand.ensures.no_tree (subst IsNone (sym c.in_default-2.is) refl) (wanted.0, wanted.1 first) on.0.0 on.0.1

pub returns-clause-no_list : goal.returns-clause-no_list
returns-clause-no_list c = λ _ wanted ts d.
    let g = c.args.self.now.graph.now in
    let k = c.args.self.now.kinds.now in
    walk_too_long g c.args.self.now.roles.now c.requires c.loop-count.invariant.1 (omega (arith, c.len-count-end.ensures.len, c.loop-count.auto.count-end, c.loop-count-test.false)) 0
    (met g k c.args.list.now (Many c.args.sort 0) ts wanted.0 d)
