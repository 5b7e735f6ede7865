use Rattle.std.proofs.Common.{◌∙◌, ap}
use Rattle.std.specs.Str.{bytes_eq}
use Rattle.owl_characters.proofs.AsciiLaws.{word_is}
use Rattle.rdf_sayable.proofs.objection.is_name.Goals as goal

pub returns : goal.returns
returns c =
    c.eq.ensures ∙ ap (λ text. bytes_eq c.args.name.now text) c.text.ensures.bytes ∙ word_is c.args.name.now c.args.iri.now c.requires
