use Rattle.std.proofs.Common.{ap, ◌∙◌, sym, ◌++◌}
use Rattle.std.specs.Str.{chars}
use Rattle.iri_references.specs.References.{before, slash}
use Rattle.iri_references.specs.DotSegments.{with_segments}
use Rattle.iri_references.specs.Views.{seen, segments_behind}
use Rattle.iri_references.proofs.Paths.{front_segment}
use Rattle.iri_references.proofs.dot_segments.without_dot_segments.Goals as goal

pub returns : goal.returns
returns c =
    let path = chars c.without_front_dots.result.now in
    let front = ap chars (c.in_ok-push_str.ensures.bytes ∙ ap (λ x. x ++ c.cut.result.0.now) c.in_ok-output.ensures.bytes) ∙ c.cut.ensures.before in
    c.in_ok-add_segments.ensures
    ∙ ap (λ x. with_segments x (segments_behind (seen c.cut.result.1))) front
    ∙ ap (λ x. with_segments (before slash path) (segments_behind x)) c.cut.ensures.behind
    ∙ sym (front_segment path c.without_front_dots.ensures.front)
    ∙ c.without_front_dots.ensures.same
