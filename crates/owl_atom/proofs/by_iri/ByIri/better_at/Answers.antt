use Rattle.std.proofs.Common.{subst, sym}
use Rattle.std.specs.Prelude.{◌++◌, ◌∷◌, []}
use Rattle.owl_atom.specs.ByIri.{sized}
use Rattle.owl_atom.specs.Places.{IsBest}
use Rattle.owl_atom.proofs.ByIri.{one_more_length, shorter_length}
use Rattle.owl_atom.proofs.by_iri.ByIri.better_at.Goals as goal

pub returns-in-Some : goal.returns-in-Some
returns-in-Some c = λ held lengths up is old.
    let now = lengths ++ c.args.length ∷ [] in
    subst (IsBest held (sized now) c.args.iri.now) (sym c.in-Some.is)
    (shorter_length held lengths c.args.length c.args.iri.now c.in-Some.field-0-0 c.in-Some.begin c.if-length-begin.true (subst (IsBest held (sized lengths) c.args.iri.now) c.in-Some.is old))

pub returns-in_default : goal.returns-in_default
returns-in_default c = λ held lengths up is old.
    subst (IsBest held (sized (lengths ++ c.args.length ∷ [])) c.args.iri.now) (sym c.longer.ensures)
    (one_more_length held lengths c.args.length c.args.iri.now c.args.best c.cut_at.result old (c.cut_at.ensures held up is))
