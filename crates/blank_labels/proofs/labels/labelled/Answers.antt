use Rattle.std.proofs.Common.{◌∙◌, arith, rules}
use Rattle.std.specs.Result.{IsErrOf}
use Rattle.rdf_terms.specs.declared.fault.LabelFault.TheVariants.{BadLabel}
use Rattle.blank_labels.proofs.FreshTexts.{written, written_label}
use Rattle.blank_labels.proofs.labels.labelled.Goals as goal

pub returns-in-Ok : goal.returns-in-Ok
returns-in-Ok c = c.in-Ok.ensures.ok ∙ written c.deref.result.now c.args.number (omega (arith, c.ranges.number)) (c.deref.ensures ∙ c.in_ok-text.ensures.ok)

pub unreachable-requires : goal.unreachable-requires
unreachable-requires c =
    let bad : IsErrOf c.of.result BadLabel = search rules in
    c.of.ensures.bad.0 bad (written_label c.deref.result.now c.args.number (omega (arith, c.ranges.number)) (c.deref.ensures ∙ c.in_ok-text.ensures.ok))
