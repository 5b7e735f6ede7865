use Rattle.std.proofs.Common.{◌<◌, Err, length, arith, ap}
use Rattle.owl_writing.proofs.DraftLaws.{all_more, line_more, passed_on, stands_at, too_long_at}
use Rattle.owl_writing.specs.declared.fault.WriteFault.TheVariants.{TooLong}
use Rattle.ttl_write.specs.Formed.{IsFormedTriple}
use Rattle.ttl_write.specs.Text.{triple_line}
use Rattle.ttl_write.proofs.lines.add_triples.Goals as goal

pub returns-in_err-add_triple-clause-too_long : goal.returns-in_err-add_triple-clause-too_long
returns-in_err-add_triple-clause-too_long c = λ e.
    let inside : c.loop-place.place < length c.args.graph.now = omega (arith, c.len-place-end.ensures.len) in
    let found = passed_on c.from_residual.result c.in_err-add_triple.field-0.0 TooLong c.from_residual.ensures.1 e in
    let is = stands_at c.args.graph.now c.loop-place.place c.at.result.now c.at.ensures.at in
    too_long_at (triple_line c.args.prefixes.now) c.args.draft.now c.loop-place.draft c.args.graph.now c.loop-place.place c.at.result.now c.loop-place.invariant.text inside is (c.in_err-add_triple.ensures.too_long (ap Err found))

pub loop-place-preserved : goal.loop-place-preserved
loop-place-preserved c =
    let inside : c.loop-place.place < length c.args.graph.now = omega (arith, c.len-place-end.ensures.len) in
    let is = stands_at c.args.graph.now c.loop-place.place c.at.result.now c.at.ensures.at in
    record {
      text = line_more (triple_line c.args.prefixes.now) c.args.draft.now c.loop-place.draft c.add_triple.new.draft c.args.graph.now c.loop-place.place c.at.result.now c.loop-place.invariant.text inside is c.in_ok-add_triple.ensures.ok;
      formed = all_more IsFormedTriple c.args.graph.now c.loop-place.place c.at.result.now c.loop-place.invariant.formed inside is c.in_ok-add_triple.ensures.formed;
    }
