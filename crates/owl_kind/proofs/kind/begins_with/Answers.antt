use Rattle.std.proofs.Common.{◌∙◌, ap, nat_eq}
use Rattle.std.specs.List.{starts_with}
use Rattle.std.proofs.lemmas.Str.Pattern.{starts_text}
use Rattle.owl_characters.proofs.AsciiLaws.{front_is}
use Rattle.owl_kind.proofs.kind.begins_with.Goals as goal

pub returns : goal.returns
returns c =
    starts_text c.starts_with.result c.args.front.now c.text.result.now c.starts_with.ensures.cases
    ∙ ap (λ text. starts_with nat_eq text c.args.front.now) c.text.ensures.bytes
    ∙ front_is c.args.front.now c.args.iri.now c.text.ensures.scalars c.requires
