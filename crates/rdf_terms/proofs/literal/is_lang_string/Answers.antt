use Rattle.std.proofs.Common.{◌≡◌, ◌↔◌, IsTrue, subst}
use Rattle.rdf_terms.proofs.LiteralForms.{lang_string_chars}
use Rattle.rdf_terms.proofs.literal.is_lang_string.Goals as goal

pub returns : goal.returns
returns c = subst (λ x. IsTrue c.is.result ↔ (c.args.datatype.now ≡ x)) lang_string_chars c.is.ensures
