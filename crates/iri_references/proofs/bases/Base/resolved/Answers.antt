use Rattle.std.proofs.Common.{◌≡◌, ◌∙◌, ◌++◌, IfOk, ap, subst, sym}
use Rattle.std.specs.Str.{chars}
use Rattle.owl_characters.specs.Iri.{IsIri}
use Rattle.iri_references.specs.Bases.{IsBase}
use Rattle.iri_references.specs.Resolution.{resolved_without_scheme}
use Rattle.iri_references.proofs.Allowed.{with_scheme_iri, without_scheme_iri}
use Rattle.iri_references.proofs.Fronts.{iri_behind, put_behind}
use Rattle.iri_references.proofs.Targets.{as_written, by_base}
use Rattle.iri_references.proofs.bases.Base.resolved.Goals as goal

-- a reference with a scheme
pub known-requires : goal.known-requires
known-requires c = with_scheme_iri (chars c.args.reference.now) c.requires (sym c.has_scheme.ensures ∙ c.if-has_scheme.true)

pub returns-then-has_scheme : goal.returns-then-has_scheme
returns-then-has_scheme c =
    let is = as_written c.args.self.now (chars c.args.reference.now) (sym c.has_scheme.ensures ∙ c.if-has_scheme.true) in
    subst (λ x. IfOk c.known.result (λ iri. iri ≡ x)) is c.known.ensures

-- one that is put behind the front
pub known-requires-in-Some : goal.known-requires-in-Some
known-requires-in-Some c =
    let reference = chars c.args.reference.now in
    let front = c.self.inside.front in
    let rest = c.self.inside.rest in
    let base = subst (IsBase front rest) c.if-self.true c.self.invariant in
    let is = c.as_str-in-Some.ensures.chars ∙ c.in_ok-text.ensures ∙ ap (λ x. x ++ reference) c.as_str.ensures.chars in
    subst IsIri (sym is) (iri_behind front rest reference (chars c.in-Some._cut.0.now) (chars c.in-Some._cut.1.now) base c.in-Some.ensures c.requires)

pub returns-in-Some : goal.returns-in-Some
returns-in-Some c =
    let reference = chars c.args.reference.now in
    let front = c.self.inside.front in
    let rest = c.self.inside.rest in
    let base = subst (IsBase front rest) c.if-self.true c.self.invariant in
    let is = c.as_str-in-Some.ensures.chars ∙ c.in_ok-text.ensures ∙ ap (λ x. x ++ reference) c.as_str.ensures.chars in
    let put = put_behind c.args.self.now front rest reference (chars c.in-Some._cut.0.now) (chars c.in-Some._cut.1.now) (sym c.self.view_is) base c.in-Some.ensures in
    subst (λ x. IfOk c.known-in-Some.result (λ iri. iri ≡ x)) (is ∙ put) c.known-in-Some.ensures

-- any other
pub known-requires-2 : goal.known-requires-2
known-requires-2 c =
    let reference = chars c.args.reference.now in
    let base = c.as_str-4.ensures.chars ∙ c.in_ok-base.ensures ∙ ap (λ x. x ++ chars c.as_str-3.result.now) c.as_str-2.ensures.chars ∙ ap (λ x. c.self.inside.front ++ x) c.as_str-3.ensures.chars in
    let is = c.as_str-5.ensures.chars ∙ c.in_ok-text-2.ensures ∙ ap (λ x. resolved_without_scheme x reference) base in
    subst IsIri (sym is) (without_scheme_iri (c.self.inside.front ++ c.self.inside.rest) reference c.self.invariant.iri c.requires)

pub returns : goal.returns
returns c =
    let reference = chars c.args.reference.now in
    let base = c.as_str-4.ensures.chars ∙ c.in_ok-base.ensures ∙ ap (λ x. x ++ chars c.as_str-3.result.now) c.as_str-2.ensures.chars ∙ ap (λ x. c.self.inside.front ++ x) c.as_str-3.ensures.chars in
    let is = c.as_str-5.ensures.chars ∙ c.in_ok-text-2.ensures ∙ ap (λ x. resolved_without_scheme x reference) (base ∙ c.self.view_is) in
    let by = by_base c.args.self.now reference (sym c.has_scheme.ensures ∙ c.if-has_scheme.false) in
    subst (λ x. IfOk c.known-2.result (λ iri. iri ≡ x)) (is ∙ by) c.known-2.ensures
