use Rattle.std.proofs.Common.{◌≡◌}
use Rattle.std.specs.List.{list_any}
use Rattle.std.specs.Str.{chars}
use Rattle.iri_references.specs.DotSegments.{is_dot_segment, segments_of}
use Rattle.iri_references.specs.Views.{seen, segments_behind}
use Rattle.iri_references.proofs.Paths.{size_behind}
use Rattle.iri_references.proofs.dot_segments.has_dot_segment.Given as goal

abbrev pub invariant-loop-rest : goal.invariant-loop-rest
invariant-loop-rest l =
    list_any is_dot_segment (segments_behind (seen l.rest)) ≡ list_any is_dot_segment (segments_of (chars l.fn.path))

abbrev pub decreases-loop-rest : goal.decreases-loop-rest
decreases-loop-rest l = size_behind (seen l.rest)
