use Rattle.std.proofs.Common.{sym, ap, ◌∙◌}
use Rattle.std.specs.List.{list_any}
use Rattle.std.specs.Str.{chars}
use Rattle.iri_references.specs.DotSegments.{is_dot_segment}
use Rattle.iri_references.specs.Views.{seen, segments_behind}
use Rattle.iri_references.proofs.Paths.{dots_behind}
use Rattle.iri_references.proofs.dot_segments.has_dot_segment.Goals as goal

pub loop-rest-preserved : goal.loop-rest-preserved
loop-rest-preserved c =
    dots_behind (chars c.in-Some.text.now) (chars c.cut.result.0.now) (seen c.cut.result.1) c.cut.ensures.before c.cut.ensures.behind (sym c.is_dot_segment.ensures ∙ c.if-is_dot_segment.false)
    ∙ sym (ap (λ x. list_any is_dot_segment (segments_behind (seen x))) c.in-Some.is)
    ∙ c.loop-rest.invariant
