use Rattle.std.proofs.Common.{◌≡◌, ◌∙◌, [], IfOk, ap, subst, sym, unwrap_or}
use Rattle.std.specs.Str.{chars}
use Rattle.std.proofs.lemmas.Str.{chars-nil}
use Rattle.iri_references.specs.References.{colon}
use Rattle.iri_references.specs.Resolution.{parts, recomposed}
use Rattle.iri_references.specs.Views.{parts_seen, seen}
use Rattle.iri_references.proofs.Marks.{after_is}
use Rattle.iri_references.proofs.Targets.{kept_text, moved_text, or_seen, rest_seen}
use Rattle.iri_references.proofs.resolution.resolved_without_scheme.Goals as goal

pub returns-then-keeps_path : goal.returns-then-keeps_path
returns-then-keeps_path c =
    let base = parts_seen c.of-base.result in
    let reference = parts_seen c.of-reference.result in
    let scheme = chars c.cut.result.0.now in
    let rest = ap (λ t. chars t.now) c.unwrap_or.ensures ∙ rest_seen c.cut.result.1 _ chars-nil ∙ ap (λ o. unwrap_or o []) c.cut.ensures.behind ∙ sym (after_is colon (chars c.args.base.now)) in
    let query = ap seen c.or.ensures ∙ or_seen c.of-reference.result.query c.of-base.result.query in
    let text = kept_text (chars c.args.base.now) (chars c.args.reference.now) scheme (chars c.unwrap_or.result.now) base reference c.cut.ensures.before rest c.of-base.ensures c.of-reference.ensures (sym c.keeps_path.ensures ∙ c.if-keeps_path.true) in
    subst (λ x. IfOk c.recomposed.result (λ text. text ≡ x)) (ap (λ q. recomposed scheme (parts base.authority base.path q reference.fragment)) query ∙ text) c.recomposed.ensures

pub returns : goal.returns
returns c =
    let base = parts_seen c.of-base.result in
    let reference = parts_seen c.of-reference.result in
    let scheme = chars c.cut.result.0.now in
    let path = chars c.as_str.result.now in
    let rest = ap (λ t. chars t.now) c.unwrap_or.ensures ∙ rest_seen c.cut.result.1 _ chars-nil ∙ ap (λ o. unwrap_or o []) c.cut.ensures.behind ∙ sym (after_is colon (chars c.args.base.now)) in
    let authority = ap seen c.or-2.ensures ∙ or_seen c.of-reference.result.authority c.of-base.result.authority in
    let path_is = ap chars c.as_str.ensures.value ∙ c.in_ok-path.ensures in
    let text = moved_text (chars c.args.base.now) (chars c.args.reference.now) scheme (chars c.unwrap_or.result.now) path base reference c.cut.ensures.before rest c.of-base.ensures c.of-reference.ensures (sym c.keeps_path.ensures ∙ c.if-keeps_path.false) path_is in
    subst (λ x. IfOk c.recomposed-2.result (λ text. text ≡ x)) (ap (λ a. recomposed scheme (parts a path reference.query reference.fragment)) authority ∙ text) c.recomposed-2.ensures
