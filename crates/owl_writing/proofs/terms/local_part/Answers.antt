use Rattle.std.proofs.Common.{ap, ◌∙◌}
use Rattle.std.specs.Str.{chars}
use Rattle.owl_writing.proofs.ShortIris.{local_chars}
use Rattle.owl_writing.proofs.terms.local_part.Goals as goal

pub returns : goal.returns
returns c = λ front local parts begin.
    ap chars c.range_from.ensures.value ∙ local_chars c.args.iri.now c.text.result.now c.args.begin front local c.text.ensures.scalars c.text.ensures.bytes parts begin
