use Rattle.std.proofs.Common.{◌≡◌, ◌↔◌, subst}
use Rattle.std.specs.Prelude.{IsTrue}
use Rattle.std.specs.Bool.{one_answer}
use Rattle.std.specs.Str.{bytes_eq}
use Rattle.std.proofs.lemmas.Slice.Eq.{bytes_eq-Decides}
use Rattle.owl_characters.proofs.AsciiLaws.{ascii_chars}
use Rattle.rdf_rows.proofs.iris.is_spelled.Goals as goal

pub returns : goal.returns
returns c =
    let told = subst (λ cs. IsTrue c.is.result ↔ (c.args.iri.now ≡ cs)) (ascii_chars c.args.text.now c.requires) c.is.ensures in
    one_answer c.is.result (bytes_eq c.args.iri.now c.args.text.now) told (bytes_eq-Decides c.args.iri.now c.args.text.now)
