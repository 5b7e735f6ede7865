use Rattle.std.proofs.Common.{◌≡◌, IfOk, subst}
use Rattle.rdf_terms.proofs.WordLaws.{ascii_iri}
use Rattle.rdf_terms.proofs.iri.Iri.of_ascii.Goals as goal

pub known-requires : goal.known-requires
known-requires c = (ascii_iri c.args.text.now c.requires).0

pub returns : goal.returns
returns c = subst (λ x. IfOk c.known.result (λ iri. iri ≡ x)) (ascii_iri c.args.text.now c.requires).1 c.known.ensures
