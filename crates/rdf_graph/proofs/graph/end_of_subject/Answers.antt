use Rattle.std.proofs.Common.{◌≡◌, arith, false, rules, true}
use Rattle.std.specs.Ordering.{is_lt}
use Rattle.rdf_graph.specs.Terms.{term_cmp}
use Rattle.rdf_graph.proofs.Subjects.{below_are_up_to, counted_up_to, one_more_up_to}
use Rattle.rdf_graph.proofs.graph.end_of_subject.Goals as goal

pub loop-end-init : goal.loop-end-init
loop-end-init c = below_are_up_to c.args.triples.now c.args.term.now c.args.below c.requires.below

pub returns-then-lt : goal.returns-then-lt
returns-then-lt c =
    let less : is_lt (term_cmp c.args.term.now c.index-triples-end.result.subject) ≡ true = search rules in
    counted_up_to c.args.triples.now c.args.term.now c.loop-end.end c.index-triples-end.result (omega (arith, c.loop-end-test.true, c.min-near.ensures)) c.index-triples-end.is c.loop-end.invariant
    c.requires.ascending less

pub loop-end-preserved : goal.loop-end-preserved
loop-end-preserved c =
    let less : is_lt (term_cmp c.args.term.now c.index-triples-end.result.subject) ≡ false = search rules in
    one_more_up_to c.args.triples.now c.args.term.now c.loop-end.end c.index-triples-end.result (omega (arith, c.loop-end-test.true, c.min-near.ensures)) c.index-triples-end.is c.loop-end.invariant less
