use Rattle.std.proofs.Common.{◌≡◌, ◌↔◌, refl, subst}
use Rattle.std.specs.Prelude.{IsTrue}
use Rattle.std.specs.Bool.{one_answer}
use Rattle.std.proofs.lemmas.Slice.Eq.{bytes_eq-Decides}
use Rattle.dl_rules.specs.Local.{top_data_property}
use Rattle.owl_characters.proofs.AsciiLaws.{ascii_chars}
use Rattle.owl_characters.specs.Order.{text_eq}
use Rattle.dl_local.proofs.leaves.is_top_data_property.Goals as goal

pub returns : goal.returns
unfolding top_data_property
returns c =
    let told = subst (λ cs. IsTrue c.is.result ↔ (c.args.iri.now ≡ cs)) (ascii_chars _ refl) c.is.ensures in
    one_answer c.is.result (text_eq c.args.iri.now top_data_property) told (bytes_eq-Decides c.args.iri.now top_data_property)
