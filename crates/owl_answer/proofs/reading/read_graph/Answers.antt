use Rattle.std.proofs.Common.{ℕ, List, ◌∙◌, subst}
use Rattle.owl_documents.specs.Documents.{a_graph, graph_read_of}
use Rattle.owl_doc.specs.Documents.{ontology_of}
use Rattle.owl_messages.specs.Unsaid.{of_graph}
use Rattle.rdf_reverse.specs.Guesses.{IsFaultWith, IsSaidWith}
use Rattle.rdf_thin.specs.Thinned.{thinned}
use Rattle.owl_answer.proofs.Readings.{by_from, unsaid_graph}
use Rattle.owl_answer.specs.Reading.{IsFaultUnder}
use Rattle.owl_answer.proofs.reading.read_graph.Goals as goal

pub returns-clause-said : goal.returns-clause-said
returns-clause-said c =
    let g = thinned c.args.doc.now.graph in (
      c.in_ok-reverse.ensures.prefixes ∙ c.in_ok-prefixes.ensures,
      subst (λ (names : List (List ℕ)). IsSaidWith g c.args.kinds.now names (ontology_of c.in_ok-reverse.field-0)) c.deref.ensures.value c.in_ok-reverse.ensures.said,
    )

pub returns-in_err-reverse-clause-fault : goal.returns-in_err-reverse-clause-fault
returns-in_err-reverse-clause-fault c =
    let g = thinned c.args.doc.now.graph in
    let fault = subst (λ (names : List (List ℕ)). IsFaultWith g c.args.kinds.now names c.in_err-reverse.field-0.0) c.deref.ensures.value c.in_err-reverse.ensures.fault in
    by_from c.from_residual-in_err-reverse.result (of_graph c.in_err-reverse.field-0.0) (IsFaultUnder c.args.kinds.now (a_graph (graph_read_of c.args.doc.now)))
    c.from_residual-in_err-reverse.ensures.1 (unsaid_graph (graph_read_of c.args.doc.now) c.args.kinds.now c.in_err-reverse.field-0.0 fault)
