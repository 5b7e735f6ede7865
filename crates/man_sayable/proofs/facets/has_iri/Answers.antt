use Rattle.std.proofs.Common.{◌∙◌, ap, nat_eq}
use Rattle.std.specs.Prelude.{◌&&◌, codes}
use Rattle.std.specs.List.{list_all, starts_with}
use Rattle.std.specs.Str.{bytes_eq}
use Rattle.std.proofs.lemmas.Bool.{and_parts}
use Rattle.owl_characters.specs.Iri.{is_ascii, is_iri_character}
use Rattle.owl_characters.specs.Order.{text_eq}
use Rattle.owl_characters.proofs.AsciiLaws.{word_is}
use Rattle.man_sayable.proofs.facets.has_iri.Goals as goal

pub returns : goal.returns
returns c =
    let name = c.facet_name.result.now in
    let iri = c.args.iri.now in
    let behind = and_parts (starts_with nat_eq name (codes "http:")) (list_all is_ascii name && list_all is_iri_character name) c.facet_name.ensures.ascii in
    let ascii = and_parts (list_all is_ascii name) (list_all is_iri_character name) behind.1 in
    c.eq.ensures
    ∙ ap (λ text. bytes_eq name text) c.text.ensures.bytes
    ∙ word_is name iri ascii.0
    ∙ ap (λ facet. text_eq facet iri) c.facet_name.ensures.name
