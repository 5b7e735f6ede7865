use Rattle.std.proofs.Common.{◌≡◌, ℕ, List, length, rules, subst, sym}
use Rattle.std.proofs.lemmas.Result.{IfOk-weaker}
use Rattle.owl_command.specs.declared.status.Status.TheVariants.{Done}
use Rattle.owl_documents.specs.Documents.{said_of}
use Rattle.owl_documents.specs.declared.document.Syntax.TheVariants.{Manchester, Turtle}
use Rattle.rdf_mapping.specs.Graphs.{graph_of}
use Rattle.owl_answer.specs.ManchesterOutcome.{manchester_form}
use Rattle.owl_answer.specs.TrialParts.{ReadsBack}
use Rattle.owl_answer.specs.TurtleOutcome.{canonical_said, turtle_form}
use Rattle.owl_messages.specs.Answers.{outcome_of}
use Rattle.owl_messages.specs.declared.answer.Answer.{Answer}
use Rattle.owl_answer.specs.Trials.{both, no_manchester, no_turtle}
use Rattle.owl_answer.proofs.TrialLaws.{manchester_again, turtle_again}
use Rattle.owl_answer.proofs.trial.try_ontology.Goals as goal

pub returns-then-ne : goal.returns-then-ne
returns-then-ne c = no_turtle c.in_ok-turtle.ensures.is (search rules)

pub returns-then-ne-2 : goal.returns-then-ne-2
returns-then-ne-2 c =
    no_manchester (outcome_of c.in_ok-turtle.turtle) c.in_ok-turtle.ensures.is (search rules) c.in_ok-manchester.ensures.is (search rules)

pub find-requires-clause-turtle : goal.find-requires-clause-turtle
find-requires-clause-turtle c =
    let is = c.notes.ensures.document in
    subst (λ (bs : List ℕ). ReadsBack Turtle c.args.kinds bs (turtle_form (canonical_said (said_of c.args.doc))).ontology (length (graph_of (turtle_form (canonical_said (said_of c.args.doc))).ontology))) (sym c.as_bytes-turtle.ensures) (turtle_again c.args.kinds (said_of c.args.doc) (outcome_of c.in_ok-turtle.turtle) is.ontology is.canonical c.in_ok-turtle.ensures (search rules))

pub find-requires-clause-manchester : goal.find-requires-clause-manchester
find-requires-clause-manchester c =
    subst (λ (bs : List ℕ). ReadsBack Manchester c.args.kinds bs (manchester_form c.args.kinds (canonical_said (said_of c.args.doc))).ontology 0) (sym c.as_bytes-manchester.ensures) (manchester_again c.args.kinds (said_of c.args.doc) (outcome_of c.in_ok-manchester.manchester) c.in_ok-manchester.ensures (search rules))

pub returns : goal.returns
returns c =
    let turtle_done : c.in_ok-turtle.turtle.status ≡ Done = search rules in
    let manchester_done : c.in_ok-manchester.manchester.status ≡ Done = search rules in
    IfOk-weaker c.report.result _ _ (λ (a : Answer) h. both (outcome_of c.in_ok-turtle.turtle) (outcome_of c.in_ok-manchester.manchester) c.in_ok-turtle.ensures.is turtle_done c.in_ok-manchester.ensures.is manchester_done c.in_ok-findings.findings c.in_ok-findings.ensures h) c.report.ensures
