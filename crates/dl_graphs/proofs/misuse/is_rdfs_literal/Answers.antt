use Rattle.std.proofs.Common.{◌≡◌, ◌↔◌, refl, subst}
use Rattle.std.specs.Prelude.{IsTrue, codes}
use Rattle.std.specs.Cmp.{both_ways}
use Rattle.std.proofs.lemmas.Slice.Eq.{bytes_eq-Decides}
use Rattle.owl_characters.proofs.AsciiLaws.{ascii_chars}
use Rattle.owl_characters.specs.Order.{text_eq}
use Rattle.rdf_terms.specs.Vocabulary.{rdfs}
use Rattle.dl_graphs.proofs.misuse.is_rdfs_literal.Goals as goal

pub returns : goal.returns
returns c =
    let told : IsTrue c.is.result ↔ (c.args.iri.now ≡ rdfs (codes "Literal")) = subst (λ cs. IsTrue c.is.result ↔ (c.args.iri.now ≡ cs)) (ascii_chars _ refl) c.is.ensures in
    let same = bytes_eq-Decides c.args.iri.now (rdfs (codes "Literal")) in
    both_ways c.is.result (text_eq c.args.iri.now (rdfs (codes "Literal"))) (λ h. same.1 (told.0 h)) (λ h. told.1 (same.0 h))
