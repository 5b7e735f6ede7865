use Rattle.std.proofs.Common.{ap, ◌∙◌, sym, string_bytes}
use Rattle.std.specs.Str.{chars}
use Rattle.iri_references.specs.DotSegments.{with_segments}
use Rattle.iri_references.specs.Views.{seen, segments_behind}
use Rattle.iri_references.proofs.Outputs.{added_more}
use Rattle.iri_references.proofs.dot_segments.add_segments.Goals as goal

pub loop-rest-preserved : goal.loop-rest-preserved
loop-rest-preserved c =
    let output = chars (string_bytes c.loop-rest.output) in
    added_more output (chars (string_bytes c.add_segment.new.output)) (chars c.cut.result.0.now) (chars c.in-Some.text.now) c.cut.result.1 c.is_none.result
    c.cut.ensures.before c.cut.ensures.behind c.is_none.ensures c.in_ok-add_segment.ensures
    ∙ sym (ap (λ x. with_segments output (segments_behind (seen x))) c.in-Some.is)
    ∙ c.loop-rest.invariant
