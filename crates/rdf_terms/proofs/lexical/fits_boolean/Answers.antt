use Rattle.std.proofs.Common.{refl, sym, ◌∙◌}
use Rattle.std.specs.Prelude.{codes}
use Rattle.rdf_terms.specs.Vocabulary.{xsd}
use Rattle.rdf_terms.proofs.AsciiTexts.{is_same, one_of}
use Rattle.rdf_terms.proofs.lexical.fits_boolean.Goals as goal

pub returns-else-ne : goal.returns-else-ne
returns-else-ne c =
    let same = is_same c.ne.result c.text.result.now (xsd (codes "boolean")) c.args.datatype.now c.ne.ensures c.if-ne.false c.text.ensures.bytes refl in
    let is = one_of c.is_one_of.result _ c.args.form.now c.utf8.form c.is_one_of.ensures refl in
    (λ t e. sym is ∙ t, λ h. is ∙ h same)
