use Rattle.std.proofs.Common.{◌≡◌, ◌↔◌, IsTrue, subst}
use Rattle.rdf_terms.proofs.LiteralForms.{plain_literal_chars}
use Rattle.rdf_terms.proofs.literal.is_plain_literal.Goals as goal

pub returns : goal.returns
returns c = subst (λ x. IsTrue c.is.result ↔ (c.args.datatype.now ≡ x)) plain_literal_chars c.is.ensures
