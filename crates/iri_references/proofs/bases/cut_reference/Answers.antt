use Rattle.std.proofs.Common.{◌∙◌, ap, subst, sym}
use Rattle.iri_references.specs.References.{Parts}
use Rattle.iri_references.specs.Bases.{HaveNoDots}
use Rattle.iri_references.specs.DotSegments.{segments_of}
use Rattle.iri_references.specs.Resolution.{through_last_slash}
use Rattle.iri_references.specs.Views.{has_own_path, keeps_path}
use Rattle.iri_references.proofs.Fronts.{none_found}
use Rattle.iri_references.proofs.bases.cut_reference.Goals as goal

pub returns : goal.returns
returns c =
    let path = ap (λ (parts : Parts). parts.path) c.of-parts.ensures in
    record {
      scheme = sym c.has_scheme.ensures ∙ c.if-has_scheme.false;
      moves = ap keeps_path (sym c.of-parts.ensures) ∙ sym c.keeps_path.ensures ∙ c.if-keeps_path.false;
      relative = ap has_own_path (sym c.of-parts.ensures) ∙ sym c.has_own_path.ensures ∙ c.if-has_own_path.false;
      plain = subst (λ p. HaveNoDots (segments_of p)) path (none_found _ (sym c.has_dot_segment.ensures ∙ c.if-has_dot_segment.false));
      cut = c.through_last_slash-through.ensures ∙ ap through_last_slash path;
      parts = c.in_ok-rest.ensures;
    }
