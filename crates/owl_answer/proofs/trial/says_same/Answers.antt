use Rattle.std.proofs.Common.{◌↔◌, IsTrue, rules, subst}
use Rattle.owl_doc.specs.Documents.{Document, ontology_of}
use Rattle.owl_documents.specs.Documents.{parsed_of}
use Rattle.owl_tree.specs.Ontologies.{IsSameOntology}
use Rattle.owl_answer.specs.Reading.{said_in}
use Rattle.owl_answer.proofs.Same.{never_says_both, says_once}
use Rattle.owl_answer.proofs.TrialLaws.{same_as}
use Rattle.owl_answer.proofs.trial.says_same.Goals as goal

pub returns-in-Ok : goal.returns-in-Ok
returns-in-Ok c = λ said h.
    let other = ontology_of c.args.other.now in
    let own = said_in c.in-Ok.saying in
    let same = says_once c.args.kinds.now (parsed_of c.args.document.now) own said c.in-Ok.ensures.said h in
    let told : IsTrue c.same.result ↔ IsSameOntology own.ontology other = subst (λ (d : Document). IsTrue c.same.result ↔ IsSameOntology (ontology_of d) other) c.doc.ensures c.same.ensures in
    same_as c.same.result own.ontology said.ontology other same.ontology told

pub unreachable-requires : goal.unreachable-requires
unreachable-requires c =
    never_says_both c.args.kinds.now (parsed_of c.args.document.now) c.requires.0 c.in-Err-Graph.field-0 c.requires.1 (c.in-Err-Graph.ensures.fault (search rules))
