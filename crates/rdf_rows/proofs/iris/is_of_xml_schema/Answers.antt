use Rattle.std.proofs.Common.{[], refl, ap, ◌∙◌, nat_eq}
use Rattle.std.specs.List.{starts_with}
use Rattle.std.proofs.lemmas.Str.Pattern.{starts_text}
use Rattle.owl_characters.proofs.AsciiLaws.{front_is}
use Rattle.rdf_terms.specs.Vocabulary.{xsd}
use Rattle.rdf_rows.proofs.iris.is_of_xml_schema.Goals as goal

pub returns : goal.returns
returns c =
    starts_text c.starts_with.result (xsd []) c.text.result.now c.starts_with.ensures.cases ∙ ap (λ text. starts_with nat_eq text (xsd [])) c.text.ensures.bytes
    ∙ front_is (xsd []) c.args.iri.now c.text.ensures.scalars refl
