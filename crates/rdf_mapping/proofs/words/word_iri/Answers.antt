use Rattle.std.proofs.Common.{◌≡◌, IfOk, ap, ◌∙◌, subst}
use Rattle.rdf_terms.specs.Tables.{is_ascii_iri}
use Rattle.rdf_mapping.proofs.WordTexts.{word_is_ascii}
use Rattle.rdf_mapping.proofs.words.word_iri.Goals as goal

pub of_ascii-requires : goal.of_ascii-requires
of_ascii-requires c = ap is_ascii_iri c.iri.ensures ∙ word_is_ascii c.args.word

pub returns : goal.returns
returns c = subst (λ x. IfOk c.of_ascii.result (λ iri. iri ≡ x)) c.iri.ensures c.of_ascii.ensures
