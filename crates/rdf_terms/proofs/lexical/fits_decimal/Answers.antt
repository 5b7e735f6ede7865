use Rattle.std.proofs.Common.{refl}
use Rattle.std.specs.Prelude.{codes}
use Rattle.rdf_terms.specs.Vocabulary.{xsd}
use Rattle.rdf_terms.proofs.AsciiTexts.{is_same}
use Rattle.rdf_terms.proofs.lexical.fits_decimal.Goals as goal

pub returns-else-ne : goal.returns-else-ne
returns-else-ne c =
    let same = is_same c.ne.result c.text.result.now (xsd (codes "decimal")) c.args.datatype.now c.ne.ensures c.if-ne.false c.text.ensures.bytes refl in
    (λ t e. c.is_decimal.ensures.0 t, λ h. c.is_decimal.ensures.1 (h same))
