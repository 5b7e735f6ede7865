use Rattle.std.proofs.Common.{◌+◌, refl, sym, ◌∙◌, arith}
use Rattle.rdf_asked.proofs.ListedLaws.{walk_ends, walk_fails, walk_goes_on, walk_is_long}
use Rattle.rdf_asked.proofs.KnownLists.{walk_known}
use Rattle.rdf_asked.proofs.lists.is_list_of.Goals as goal

pub returns-in-Some : goal.returns-in-Some
returns-in-Some c =
    walk_known c.args.source.now.graph.now _ c.args.term.now c.loop-count.count c.loop-count.rest.now c.loop-count.invariant c.args.least c.in-Some.known c.if-least-count.true c.in-Some.ensures

pub returns-then-least-count-2 : goal.returns-then-least-count-2
returns-then-least-count-2 c =
    walk_ends c.loop-count.invariant c.args.least c.is_nil.result c.if-least-count-2.true (c.in-None.ensures.none refl) c.is_nil.ensures

pub returns-then-not-is_element : goal.returns-then-not-is_element
returns-then-not-is_element c =
    let cell = c.in-Some-cell_of.ensures.some in
    walk_fails c.loop-count.invariant c.in-Some-cell_of.cell.0.now c.in-Some-cell_of.cell.1.now c.args.least cell.0 cell.1 cell.2
    (sym (c.is_element.ensures c.args.source.now.graph.now c.requires.source.table) ∙ c.if-not-is_element.true)

pub loop-count-preserved : goal.loop-count-preserved
loop-count-preserved c =
    let cell = c.in-Some-cell_of.ensures.some in
    walk_goes_on c.loop-count.invariant c.in-Some-cell_of.cell.0.now c.in-Some-cell_of.cell.1.now (c.loop-count.count + 1) cell.0 cell.1 cell.2
    (sym (c.is_element.ensures c.args.source.now.graph.now c.requires.source.table) ∙ c.if-not-is_element.false) refl

pub returns : goal.returns
returns c =
    walk_is_long c.args.source.now.graph.now c.requires.source.formed c.loop-count.invariant (omega (arith, c.len-count-end.ensures.len, c.loop-count.auto.count-end, c.loop-count-test.false)) c.args.least
