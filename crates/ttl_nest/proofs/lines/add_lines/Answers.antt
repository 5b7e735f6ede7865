use Rattle.std.proofs.Common.{Err, ap}
use Rattle.owl_writing.proofs.DraftLaws.{passed_on}
use Rattle.owl_writing.specs.declared.fault.WriteFault.TheVariants.{TooLong}
use Rattle.ttl_nest.proofs.LineWritingLaws.{all_formed, lines_end, lines_long, lines_next}
use Rattle.ttl_nest.proofs.lines.add_lines.Goals as goal

pub returns-in_err-add_line-clause-too_long : goal.returns-in_err-add_line-clause-too_long
returns-in_err-add_line-clause-too_long c = λ e.
    let found = passed_on c.from_residual.result c.in_err-add_line.field-0.0 TooLong c.from_residual.ensures.1 e in
    lines_long c.args.source.now.graph.now c.args.source.now.prefixes.now c.args.draft.now c.loop-triple.draft c.loop-triple.rest.now c.loop-triple.invariant c.in-Some.triple.now c.in-Some.behind.now c.in-Some.ensures.cases.0
    (c.in_err-add_line.ensures.too_long (ap Err found))

pub loop-triple-preserved : goal.loop-triple-preserved
loop-triple-preserved c =
    lines_next c.args.source.now.graph.now c.args.source.now.prefixes.now c.args.draft.now c.loop-triple.draft c.loop-triple.rest.now c.loop-triple.invariant c.in-Some.triple.now c.in-Some.behind.now c.in-Some.ensures.cases.0
    c.add_line.new.draft c.in_ok-add_line.ensures.ok c.in_ok-add_line.ensures.formed

pub returns-clause-ok : goal.returns-clause-ok
returns-clause-ok c = lines_end c.args.source.now.graph.now c.args.source.now.prefixes.now c.args.draft.now c.loop-triple.draft c.loop-triple.rest.now c.in_default.ensures.cases c.loop-triple.invariant

pub returns-clause-formed : goal.returns-clause-formed
returns-clause-formed c = all_formed c.args.source.now.graph.now c.args.source.now.prefixes.now c.args.draft.now c.loop-triple.draft c.loop-triple.rest.now c.in_default.ensures.cases c.loop-triple.invariant
