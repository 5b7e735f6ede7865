use Rattle.std.proofs.Common.{inr, refl}
use Rattle.std.specs.Str.{chars}
use Rattle.std.proofs.lemmas.Bool.{both_ways}
use Rattle.rdf_terms.specs.Literals.{DenotesTyped, PlainForm, of_datatype}
use Rattle.rdf_terms.proofs.LiteralForms.{alike, taken, typed_plain}
use Rattle.rdf_terms.proofs.literal.of_form.Goals as goal

pub returns-then-is_plain_literal-clause-bad : goal.returns-then-is_plain_literal-clause-bad
returns-then-is_plain_literal-clause-bad c =
    let is = c.is_plain_literal.ensures.0 c.if-is_plain_literal.true in
    alike c.plain.result (PlainForm (chars c.args.form.now)) (DenotesTyped (chars c.args.form.now) c.args.datatype) (typed_plain (chars c.args.form.now) c.args.datatype is) c.plain.ensures.bad

pub returns-else-is_lang_string-clause-bad : goal.returns-else-is_lang_string-clause-bad
returns-else-is_lang_string-clause-bad c =
    let form = chars c.args.form.now in
    taken c.typed.result (DenotesTyped form c.args.datatype) (of_datatype form c.args.datatype) (inr (
      λ e. both_ways c.is_plain_literal.result c.if-is_plain_literal.false (c.is_plain_literal.ensures.1 e),
      λ e. both_ways c.is_lang_string.result c.if-is_lang_string.false (c.is_lang_string.ensures.1 e),
      refl,
    )) c.typed.ensures.memory
