use Rattle.std.proofs.Common.{◌∙◌, sym}
use Rattle.std.proofs.lemmas.Bool.{false≢true}
use Rattle.owl_canon.proofs.Finding.{not_refused}
use Rattle.owl_canon.proofs.WholeDocuments.{reads_form}
use Rattle.owl_tree.specs.Ontologies.{canonical_ontology}
use Rattle.owl_tree.proofs.OntologyLaws.{canonical_ontology_again}
use Rattle.owl_canon.proofs.calls.read.Goals as goal

pub returns-in_err-doc-clause-not_canon : goal.returns-in_err-doc-clause-not_canon
returns-in_err-doc-clause-not_canon c = λ refused o h.
    not_refused c.from_residual.result c.in_err-doc.field-0.0 c.from_residual.ensures.1
    (c.in_err-doc.ensures.found (canonical_ontology o) h.within (canonical_ontology_again o) (sym h.written)) refused

pub returns-else-branch-clause-not_canon : goal.returns-else-branch-clause-not_canon
returns-else-branch-clause-not_canon c = λ refused o h.
    let same = c.in_ok-doc.ensures.found (canonical_ontology o) h.within (canonical_ontology_again o) (sym h.written) in
    let reads = reads_form c.args.bytes.now o _ same h in
    absurd (false≢true (sym c.if-branch.false ∙ c.in_ok-has_bytes.ensures.same.1 reads))
