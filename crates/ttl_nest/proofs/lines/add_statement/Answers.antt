use Rattle.std.proofs.Common.{Err, ap}
use Rattle.owl_writing.proofs.DraftLaws.{passed_on}
use Rattle.owl_writing.specs.declared.fault.WriteFault.TheVariants.{TooLong}
use Rattle.ttl_nest.proofs.FormLaws.{shallow_at_top}
use Rattle.ttl_nest.proofs.LineWritingLaws.{object_long, predicate_long, second_space_long, space_long, subject_long}
use Rattle.ttl_nest.proofs.lines.add_statement.Goals as goal

pub returns-in_err-add_term-clause-too_long : goal.returns-in_err-add_term-clause-too_long
returns-in_err-add_term-clause-too_long c = λ e form f.
    let found = passed_on c.from_residual.result c.in_err-add_term.field-0.0 TooLong c.from_residual.ensures.1 e in
    subject_long c.args.source.now.prefixes.now c.args.triple.now form c.args.draft.now (c.in_err-add_term.ensures.too_long (ap Err found))

pub returns-in_err-add_ascii-clause-too_long : goal.returns-in_err-add_ascii-clause-too_long
returns-in_err-add_ascii-clause-too_long c = λ e form f.
    let found = passed_on c.from_residual-in_err-add_ascii.result c.in_err-add_ascii.field-0.0 TooLong c.from_residual-in_err-add_ascii.ensures.1 e in
    space_long c.args.source.now.prefixes.now c.args.triple.now form c.args.draft.now c.add_term.new.draft c.in_ok-add_term.ensures.ok (c.in_err-add_ascii.ensures.too_long (ap Err found))

pub returns-in_err-add_iri-clause-too_long : goal.returns-in_err-add_iri-clause-too_long
returns-in_err-add_iri-clause-too_long c = λ e form f.
    let found = passed_on c.from_residual-in_err-add_iri.result c.in_err-add_iri.field-0.0 TooLong c.from_residual-in_err-add_iri.ensures.1 e in
    predicate_long c.args.source.now.prefixes.now c.args.triple.now form c.args.draft.now c.add_term.new.draft c.in_ok-add_term.ensures.ok c.add_ascii.new.self c.in_ok-add_ascii.ensures.ok (c.in_err-add_iri.ensures.too_long (ap Err found))

pub returns-in_err-add_ascii-2-clause-too_long : goal.returns-in_err-add_ascii-2-clause-too_long
returns-in_err-add_ascii-2-clause-too_long c = λ e form f.
    let found = passed_on c.from_residual-in_err-add_ascii-2.result c.in_err-add_ascii-2.field-0.0 TooLong c.from_residual-in_err-add_ascii-2.ensures.1 e in
    second_space_long c.args.source.now.prefixes.now c.args.triple.now form c.args.draft.now c.add_term.new.draft c.in_ok-add_term.ensures.ok c.add_ascii.new.self c.in_ok-add_ascii.ensures.ok c.add_iri.new.self c.in_ok-add_iri.ensures.ok
    (c.in_err-add_ascii-2.ensures.too_long (ap Err found))

pub add_object-requires-clause-shallow : goal.add_object-requires-clause-shallow
add_object-requires-clause-shallow c = shallow_at_top c.args.source.now.graph.now c.args.triple.now.object

pub returns-in_err-add_object-clause-too_long : goal.returns-in_err-add_object-clause-too_long
returns-in_err-add_object-clause-too_long c = λ e form f.
    let found = passed_on c.from_residual-in_err-add_object.result c.in_err-add_object.field-0.0 TooLong c.from_residual-in_err-add_object.ensures.1 e in
    object_long c.args.source.now.prefixes.now c.args.triple.now form c.args.draft.now c.add_term.new.draft c.in_ok-add_term.ensures.ok c.add_ascii.new.self c.in_ok-add_ascii.ensures.ok c.add_iri.new.self c.in_ok-add_iri.ensures.ok
    c.add_ascii-2.new.self c.in_ok-add_ascii-2.ensures.ok (c.in_err-add_object.ensures.too_long (ap Err found) form f)
