use Rattle.std.proofs.Common.{◌∙◌, ◌++◌, Some, ap, refl, sym}
use Rattle.std.specs.Str.{chars}
use Rattle.owl_characters.proofs.AsciiLaws.{ascii_chars}
use Rattle.iri_references.specs.References.{before, colon, question_mark}
use Rattle.iri_references.specs.Resolution.{through_last_slash}
use Rattle.iri_references.specs.Views.{seen}
use Rattle.iri_references.proofs.Fronts.{front_cut, none_found}
use Rattle.iri_references.proofs.bases.cut_front.Goals as goal

pub returns : goal.returns
returns c =
    let hierarchy = chars c.in_ok-hierarchy.hierarchy.now in
    let slashes = c.in_ok-hierarchy.ensures ∙ ap (λ x. x ++ hierarchy) (ascii_chars _ refl) in
    front_cut (chars c.args.text.now) (before colon (chars c.args.text.now)) hierarchy (chars c.through_last_slash-through.result.now) (chars c.in_ok-rest.rest.now) (chars c.in_ok-front.front.now) (chars c.in_ok-path.field-0.now) refl
    (sym c.cut.ensures.behind ∙ ap seen c.in_ok-behind_scheme.was ∙ ap (λ x. Some x) slashes)
    (c.through_last_slash-through.ensures ∙ ap through_last_slash (c.cut-3.ensures.before ∙ ap (before question_mark) c.cut-2.ensures.before))
    (sym c.cut-4.ensures.behind ∙ ap seen c.in_ok-path.was)
    (none_found _ (sym c.has_dot_segment.ensures ∙ c.if-has_dot_segment.false))
    c.in_ok-front.ensures c.in_ok-rest.ensures
