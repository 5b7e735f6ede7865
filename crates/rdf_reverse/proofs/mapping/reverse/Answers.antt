use Rattle.std.proofs.Common.{Err, ap, sym, ◌∙◌}
use Rattle.std.proofs.lemmas.List.{nil_from_length}
use Rattle.std.proofs.lemmas.Bool.{eqb-true}
use Rattle.owl_characters.proofs.ResultLaws.{passed}
use Rattle.owl_doc.specs.Documents.{ontology_of}
use Rattle.rdf_thin.specs.Thinned.{thinned}
use Rattle.rdf_reverse.proofs.Finding.{given_by}
use Rattle.rdf_reverse.proofs.GuessLaws.{fault_before, fault_of_guesses, none_said, said_with}
use Rattle.rdf_reverse.proofs.mapping.reverse.Goals as goal

pub returns-in_err-doc-clause-fault : goal.returns-in_err-doc-clause-fault
returns-in_err-doc-clause-fault c =
    passed c.from_residual.result c.in_err-doc.field-0.0 _ c.from_residual.ensures.1
    (fault_before (thinned c.args.graph.now) c.args.kinds.now c.args.guessed.now c.in_err-doc.field-0.0 c.in_err-doc.ensures.fault)

pub returns-then-is_empty-clause-said : goal.returns-then-is_empty-clause-said
returns-then-is_empty-clause-said c =
    none_said (thinned c.args.graph.now) c.args.kinds.now c.args.guessed.now (ontology_of c.in_ok-doc.doc) (nil_from_length c.args.guessed.now (eqb-true _ 0 (sym c.is_empty.ensures ∙ c.if-is_empty.true))) c.in_ok-doc.ensures.said

pub returns-in_err-with_declarations-clause-fault : goal.returns-in_err-with_declarations-clause-fault
returns-in_err-with_declarations-clause-fault c =
    given_by c.from_residual-in_err-with_declarations.result c.from_residual-in_err-with_declarations.ensures.1
    (λ f e. fault_of_guesses (thinned c.args.graph.now) c.args.kinds.now c.args.guessed.now (ontology_of c.in_ok-doc.doc) c.in_ok-doc.ensures.said c.in_err-with_declarations.field-0.0 f e
    (λ heavy. c.in_err-with_declarations.ensures.heavy (ap Err heavy)))

pub returns-clause-said : goal.returns-clause-said
returns-clause-said c =
    said_with (thinned c.args.graph.now) c.args.kinds.now c.args.guessed.now (ontology_of c.in_ok-doc.doc) (ontology_of c.in_ok-with_declarations.field-0) c.in_ok-doc.ensures.said
    c.in_ok-with_declarations.ensures.light c.in_ok-with_declarations.ensures.ontology
