use Rattle.std.proofs.Common.{◌≡◌, ◌∙◌, IfOk, ap, subst, sym, string_bytes}
use Rattle.std.specs.Str.{chars}
use Rattle.iri_references.specs.DotSegments.{without_dot_segments}
use Rattle.iri_references.specs.Views.{parts_seen}
use Rattle.iri_references.proofs.Targets.{merged_path, own_path}
use Rattle.iri_references.proofs.resolution.target_path.Goals as goal

pub returns-then-has_own_path : goal.returns-then-has_own_path
returns-then-has_own_path c =
    let own = own_path (parts_seen c.args.base.now) (parts_seen c.args.reference.now) c.requires (sym c.has_own_path.ensures ∙ c.if-has_own_path.true) in
    subst (λ x. IfOk c.without_dot_segments.result (λ path. chars (string_bytes path) ≡ x)) own c.without_dot_segments.ensures

pub returns : goal.returns
returns c =
    let merged = merged_path (parts_seen c.args.base.now) (parts_seen c.args.reference.now) c.requires (sym c.has_own_path.ensures ∙ c.if-has_own_path.false) in
    subst (λ x. IfOk c.without_dot_segments-2.result (λ path. chars (string_bytes path) ≡ x)) (ap without_dot_segments (c.as_str.ensures.chars ∙ c.in_ok-path.ensures) ∙ merged) c.without_dot_segments-2.ensures
