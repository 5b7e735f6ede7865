use Rattle.std.proofs.Common.{sym, ap, ◌∙◌}
use Rattle.rdf_graph.specs.declared.term.Term.TheVariants.{Iri}
use Rattle.rdf_meaning.specs.Nodes.{is_same}
use Rattle.rdf_meaning.specs.Words.{word_iri}
use Rattle.rdf_rows.proofs.CarryingLaws.{iri_is}
use Rattle.rdf_rows.proofs.carried.is_class.Goals as goal

pub returns-in-Iri : goal.returns-in-Iri
returns-in-Iri c =
    let iri = word_iri c.args.word in
    c.has_iri.ensures ∙ iri_is _ iri ∙ ap (λ x. is_same x (Iri iri)) (sym c.in-Iri.is)
