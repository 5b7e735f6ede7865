use Rattle.std.proofs.Common.{lit<}
use Rattle.std.proofs.lemmas.Bool.{both_ways, false≢true}
use Rattle.rdf_terms.proofs.Characters.{none_of}
use Rattle.rdf_terms.proofs.Iris.{first_cut, iri_of_cut, no_iri}
use Rattle.rdf_terms.proofs.iri.is_iri.Goals as goal

pub returns-then-is_scheme : goal.returns-then-is_scheme
returns-then-is_scheme c =
    let cut = first_cut 58 c.args.text.now c.in-Some.scheme c.in-Some.rest c.utf8.text c.in-Some.ensures.cases (lit< tt) in
    let is = iri_of_cut _ _ _ cut.0 cut.1 in (
      λ t. is.0 (c.is_scheme.ensures.0 c.if-is_scheme.true, c.are_iri_characters.ensures.0 t),
      λ i. c.are_iri_characters.ensures.1 (is.1 i).1,
    )

pub returns-else-is_scheme : goal.returns-else-is_scheme
returns-else-is_scheme c =
    let cut = first_cut 58 c.args.text.now c.in-Some.scheme c.in-Some.rest c.utf8.text c.in-Some.ensures.cases (lit< tt) in
    let is = iri_of_cut _ _ _ cut.0 cut.1 in (
      λ t. absurd (both_ways c.is_scheme.result c.if-is_scheme.false t),
      λ i. c.is_scheme.ensures.1 (is.1 i).0,
    )

pub returns-in-None : goal.returns-in-None
returns-in-None c =
    (λ t. absurd (false≢true t), λ i. absurd (no_iri _ (none_of _ c.args.text.now c.utf8.text c.in-None.ensures.cases) i))
