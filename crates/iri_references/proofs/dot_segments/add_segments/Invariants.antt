use Rattle.std.proofs.Common.{◌≡◌, string_bytes}
use Rattle.std.specs.Str.{chars}
use Rattle.iri_references.specs.DotSegments.{with_segments}
use Rattle.iri_references.specs.Views.{seen, segments_behind}
use Rattle.iri_references.proofs.Paths.{size_behind}
use Rattle.iri_references.proofs.dot_segments.add_segments.Given as goal

abbrev pub invariant-loop-rest : goal.invariant-loop-rest
invariant-loop-rest l =
    with_segments (chars (string_bytes l.output)) (segments_behind (seen l.rest))
    ≡ with_segments (chars (string_bytes l.fn.output)) (segments_behind (seen l.fn.behind))

abbrev pub decreases-loop-rest : goal.decreases-loop-rest
decreases-loop-rest l = size_behind (seen l.rest)
