use Rattle.std.proofs.Common.{◌↔◌, ◌∙◌, IsTrue, subst}
use Rattle.owl_doc.specs.Documents.{ontology_of}
use Rattle.owl_documents.specs.Documents.{parsed_of}
use Rattle.owl_tree.specs.Ontologies.{IsSameOntology, Ontology}
use Rattle.owl_answer.proofs.trial.read_again.Goals as goal

pub says_same-requires : goal.says_same-requires
says_same-requires c =
    let back = c.requires.reads.back (parsed_of c.in_ok-document.document) c.in_ok-document.ensures in
    (back.said, back.says)

pub returns-clause-same : goal.returns-clause-same
returns-clause-same c = λ o triples r.
    let back = r.back (parsed_of c.in_ok-document.document) c.in_ok-document.ensures in
    subst (λ (p : Ontology). IsTrue c.in_ok-says_same.field-0 ↔ IsSameOntology p (ontology_of c.args.doc.now)) back.ontology (c.in_ok-says_same.ensures back.said back.says)

pub returns-clause-triples : goal.returns-clause-triples
returns-clause-triples c = λ o triples r.
    let back = r.back (parsed_of c.in_ok-document.document) c.in_ok-document.ensures in
    c.triple_count.ensures ∙ back.counts
