use Rattle.std.proofs.Common.{◌≡◌, length}
use denote.Text.{Utf8}
use denote.Shadow.{shadow}
use Rattle.std.specs.Str.{chars}
use Rattle.iri_references.specs.DotSegments.{without_dot_segments}
use Rattle.iri_references.proofs.dot_segments.without_front_dots.Given as goal

abbrev pub invariant-loop-others : goal.invariant-loop-others
invariant-loop-others l = shadow (Utf8 l.path) × (without_dot_segments (chars l.path) ≡ without_dot_segments (chars l.fn.path))

abbrev pub decreases-loop-others : goal.decreases-loop-others
decreases-loop-others l = length (chars l.path)
