use Rattle.std.proofs.Common.{◌∙◌, ◌++◌, ap, append_assoc, subst, sym}
use Rattle.std.specs.Str.{chars}
use Rattle.iri_references.specs.Bases.{IsBase}
use Rattle.iri_references.proofs.Fronts.{grown_base, put_behind}
use Rattle.iri_references.proofs.bases.Base.moved.Goals as goal

pub grown-requires : goal.grown-requires
grown-requires c =
    let front = c.self.inside.front in
    let rest = c.self.inside.rest in
    let base = subst (IsBase front rest) c.if-self.true c.self.invariant in
    grown_base front rest (chars c.args.reference.now) (chars c.in-Some.through.now) (chars c.in-Some.rest.now) base c.in-Some.ensures (c.are_iri_characters.ensures.0 c.if-not-are_iri_characters.false)

pub returns-in-Some-clause-ok : goal.returns-in-Some-clause-ok
returns-in-Some-clause-ok c =
    let front = c.self.inside.front in
    let rest = c.self.inside.rest in
    let through = chars c.in-Some.through.now in
    let more = chars c.in-Some.rest.now in
    let base = subst (IsBase front rest) c.if-self.true c.self.invariant in
    c.in_ok-grown.ensures
    ∙ append_assoc front through more
    ∙ ap (λ x. front ++ x) (sym c.in-Some.ensures.parts)
    ∙ put_behind c.args.self front rest (chars c.args.reference.now) through more (sym c.self.view_is) base c.in-Some.ensures
