use Rattle.std.proofs.Common.{◌∙◌, sym, refl}
use Rattle.std.specs.Str.{chars}
use Rattle.owl_characters.proofs.AsciiLaws.{ascii_chars}
use Rattle.iri_references.proofs.Targets.{slash_front}
use Rattle.iri_references.proofs.resolution.front_of.Goals as goal

pub returns-then-is_empty : goal.returns-then-is_empty
returns-then-is_empty c =
    let base = c.args.base.now in
    ascii_chars _ refl
    ∙ slash_front base.authority (chars base.path.now) (sym c.is_some.ensures ∙ c.if-is_some.true) (sym c.is_empty.ensures ∙ c.if-is_empty.true)
