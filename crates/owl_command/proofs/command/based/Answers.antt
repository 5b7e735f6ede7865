use Rattle.std.proofs.Common.{Err, ap, map, refl, string_bytes}
use Rattle.rdf_terms.specs.declared.fault.IriFault.TheVariants.{BadIri}
use Rattle.owl_command.proofs.Asking.{against_base, err_is, none_based, ok_is_none, passed_on, passed_words}
use Rattle.owl_command.specs.WordParts.{fault_of_iri}
use Rattle.owl_command.specs.declared.command.WordsFault.TheVariants.{Words}
use Rattle.owl_command.proofs.command.based.Goals as goal

pub returns-in_err-base-clause-none : goal.returns-in_err-base-clause-none
returns-in_err-base-clause-none c = λ e.
    none_based c.args.iri.now c.utf8.iri (map string_bytes c.args.names.now) (c.in_err-base.ensures.bad.0 (ap Err (passed_words c.from_residual.result c.in_err-base.field-0.0 c.from_residual.ensures.1 e)))

pub returns-in_err-base-clause-refused : goal.returns-in_err-base-clause-refused
returns-in_err-base-clause-refused c = λ none.
    let others = map string_bytes c.args.names.now in
    passed_on c.from_residual.result _ Words c.from_residual.ensures.1 (ap fault_of_iri (err_is c.in_err-base.field-0.0 BadIri (c.in_err-base.ensures.bad.1 (λ is. none _ others (against_base c.args.iri.now c.utf8.iri others _ others refl is refl (c.are_names.ensures.0 c.if-not-are_names.false))))))

pub returns-in_err-texts_of-clause-refused : goal.returns-in_err-texts_of-clause-refused
returns-in_err-texts_of-clause-refused c = λ none.
    let others = map string_bytes c.args.names.now in
    absurd (ok_is_none c.in_ok-base.base BadIri (c.in_ok-base.ensures.bad.1 (λ is. none _ others (against_base c.args.iri.now c.utf8.iri others _ others refl is refl (c.are_names.ensures.0 c.if-not-are_names.false)))))

pub returns-clause-names : goal.returns-clause-names
returns-clause-names c =
    against_base c.args.iri.now c.utf8.iri (map string_bytes c.args.names.now) c.in_ok-base.base _ c.in_ok-base.ensures.ok c.text.ensures.iri c.in_ok-texts_of.ensures (c.are_names.ensures.0 c.if-not-are_names.false)

pub returns-clause-refused : goal.returns-clause-refused
returns-clause-refused c = λ none.
    let others = map string_bytes c.args.names.now in
    absurd (ok_is_none c.in_ok-base.base BadIri (c.in_ok-base.ensures.bad.1 (λ is. none _ others (against_base c.args.iri.now c.utf8.iri others _ others refl is refl (c.are_names.ensures.0 c.if-not-are_names.false)))))
