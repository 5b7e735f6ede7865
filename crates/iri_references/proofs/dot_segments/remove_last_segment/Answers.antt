use Rattle.std.proofs.Common.{string_bytes, ap, ◌∙◌, take}
use Rattle.std.specs.Str.{chars}
use Rattle.std.proofs.lemmas.Str.{IsUtf8-string_bytes}
use Rattle.iri_references.proofs.Outputs.{removed}
use Rattle.iri_references.proofs.dot_segments.remove_last_segment.Goals as goal

pub returns : goal.returns
returns c =
    let old = string_bytes c.args.output.now in
    ap chars c.truncate.ensures.bytes
    ∙ ap (λ n. chars (take n old)) c.unwrap_or-end.ensures
    ∙ removed c.rfind.result old (IsUtf8-string_bytes c.args.output.now) (rw c.as_str.ensures.value at c.rfind.ensures.cases)
