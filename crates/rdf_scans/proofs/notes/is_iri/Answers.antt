use Rattle.std.proofs.Common.{ap, sym, ◌∙◌}
use Rattle.owl_characters.specs.OrderLaws.{equal_ties}
use Rattle.rdf_graph.specs.declared.term.Term.TheVariants.{Iri}
use Rattle.rdf_meaning.specs.Nodes.{is_same}
use Rattle.rdf_scans.proofs.notes.is_iri.Goals as goal

pub returns-in-Iri : goal.returns-in-Iri
returns-in-Iri c = c.eq.ensures.value ∙ equal_ties c.args.iri.now c.in-Iri.other ∙ ap (is_same (Iri c.args.iri.now)) (sym c.in-Iri.is)
