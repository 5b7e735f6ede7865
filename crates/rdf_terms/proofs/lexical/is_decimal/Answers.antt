use Rattle.std.proofs.Common.{subst, sym}
use Rattle.std.specs.Str.{chars}
use Rattle.rdf_terms.specs.Datatypes.{UnsignedDecimal}
use Rattle.rdf_terms.proofs.LexicalForms.{decimal_is}
use Rattle.rdf_terms.proofs.lexical.is_decimal.Goals as goal

pub returns : goal.returns
returns c =
    let is = decimal_is (chars c.args.form.now) in (
      λ t. is.0 (subst UnsignedDecimal c.without_sign.ensures (c.is_unsigned_decimal.ensures.0 t)),
      λ d. c.is_unsigned_decimal.ensures.1 (subst UnsignedDecimal (sym c.without_sign.ensures) (is.1 d)),
    )
