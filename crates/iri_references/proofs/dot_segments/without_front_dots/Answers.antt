use Rattle.std.proofs.Common.{rules, ap, ◌∙◌, sym}
use Rattle.std.specs.Str.{chars}
use Rattle.std.proofs.lemmas.Str.{chars-nil}
use Rattle.iri_references.specs.References.{before, slash}
use Rattle.iri_references.specs.DotSegments.{is_dot_segment, without_dot_segments}
use Rattle.iri_references.specs.Views.{seen}
use Rattle.iri_references.proofs.Paths.{next_front, no_front}
use Rattle.iri_references.proofs.dot_segments.without_front_dots.Goals as goal

pub loop-others-preserved : goal.loop-others-preserved
loop-others-preserved c =
    let dots = ap is_dot_segment (sym c.cut.ensures.before) ∙ sym c.is_dot_segment.ensures ∙ c.if-not-is_dot_segment.false in
    (search rules, next_front (chars c.loop-others.path.now) (chars c.in-Some.others.now) dots (sym (ap seen c.in-Some.is) ∙ c.cut.ensures.behind) ∙ c.loop-others.invariant.1)

pub returns-in-None-clause-same : goal.returns-in-None-clause-same
returns-in-None-clause-same c =
    let dots = ap is_dot_segment (sym c.cut.ensures.before) ∙ sym c.is_dot_segment.ensures ∙ c.if-not-is_dot_segment.false in
    ap without_dot_segments chars-nil
    ∙ no_front (chars c.loop-others.path.now) dots (sym (ap seen c.in-None.is) ∙ c.cut.ensures.behind)
    ∙ c.loop-others.invariant.1

pub returns-in-None-clause-front : goal.returns-in-None-clause-front
returns-in-None-clause-front c = ap (λ x. is_dot_segment (before slash x)) chars-nil
