use Rattle.std.proofs.Common.{refl, sym, ap, ◌∙◌}
use Rattle.std.specs.Str.{chars}
use Rattle.std.proofs.lemmas.Bool.{both_ways}
use Rattle.std.proofs.lemmas.Option.{same_Some, slice_get_read}
use Rattle.owl_atom.specs.declared.by_iri.Front.{Front}
use Rattle.owl_atom.proofs.Fronts.{first_is, nowhere, past}
use Rattle.owl_atom.proofs.by_iri.first_of.Goals as goal

pub returns-in_err-front-clause-none : goal.returns-in_err-front-clause-none
returns-in_err-front-clause-none c = λ x. nowhere c.args.fronts.now (chars c.args.iri.now) c.count_below.result c.requires c.count_below.ensures.parted (λ front stands same. past c.args.fronts.now c.count_below.result front c.in_err-front.ensures.lookup.0 stands)

pub returns-then-is-clause-some : goal.returns-then-is-clause-some
returns-then-is-clause-some c =
    let stands = slice_get_read c.args.fronts.now _ c.count_below.result c.in_ok-front.front.now refl c.in_ok-front.ensures.lookup.3.0 c.in_ok-front.ensures.lookup.1 in
    first_is c.args.fronts.now (chars c.args.iri.now) c.count_below.result c.requires c.count_below.ensures.parted c.in_ok-front.front.now stands (c.is.ensures.0 c.if-is.true)

pub returns-else-is-clause-none : goal.returns-else-is-clause-none
returns-else-is-clause-none c =
    let stands = slice_get_read c.args.fronts.now _ c.count_below.result c.in_ok-front.front.now refl c.in_ok-front.ensures.lookup.3.0 c.in_ok-front.ensures.lookup.1 in
    λ x. nowhere c.args.fronts.now (chars c.args.iri.now) c.count_below.result c.requires c.count_below.ensures.parted
    (λ front at same. both_ways c.is.result c.if-is.false (c.is.ensures.1 (ap (λ (f : Front). f.iri) (same_Some c.in_ok-front.front.now front (sym stands ∙ at)) ∙ same)))
