use Rattle.std.proofs.Common.{◌≡◌, ◌↔◌, refl, subst}
use Rattle.std.specs.Prelude.{IsTrue}
use Rattle.owl_characters.proofs.AsciiLaws.{ascii_chars}
use Rattle.rdf_rows.proofs.iris.is_nil_iri.Goals as goal

pub returns : goal.returns
returns c = subst (λ cs. IsTrue c.is.result ↔ (c.args.iri.now ≡ cs)) (ascii_chars _ refl) c.is.ensures
