use Rattle.owl_doc.specs.Documents.{ontology_of}
use Rattle.rdf_forward.proofs.Whole.{made_from_nothing}
use Rattle.rdf_forward.proofs.graph.triples_of.Goals as goal

pub returns : goal.returns
returns c = made_from_nothing _ c.write_document.new.self (ontology_of c.args.doc.now) c.new.ensures c.in_ok-labels_beside.ensures c.in_ok-write_document.ensures
