use Rattle.std.proofs.Common.{Err, ap}
use Rattle.man_write.specs.Plans.{import_text}
use Rattle.owl_writing.specs.declared.fault.WriteFault.TheVariants.{TooLong}
use Rattle.owl_writing.proofs.DraftLaws.{too_long_at, passed_on}
use Rattle.man_write.proofs.lines.add_imports.Goals as goal

pub returns-in_err-add_import-clause-too_long : goal.returns-in_err-add_import-clause-too_long
returns-in_err-add_import-clause-too_long c = λ e.
    let found = passed_on c.from_residual.result c.in_err-add_import.field-0.0 TooLong c.from_residual.ensures.1 e in
    too_long_at import_text c.args.draft.now c.loop-iri.draft c.args.imports.now c.loop-iri.iri-index c.iri-item.result c.loop-iri.invariant c.loop-iri-test.true c.iri-item.is (c.in_err-add_import.ensures.too_long (ap Err found))
