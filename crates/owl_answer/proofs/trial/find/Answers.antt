use Rattle.owl_documents.specs.Documents.{said_of}
use Rattle.owl_answer.proofs.TrialLaws.{are_found}
use Rattle.owl_answer.proofs.trial.find.Goals as goal

pub returns : goal.returns
returns c =
    let canonical = c.notes.ensures.document.canonical in
    are_found c.args.kinds (said_of c.args.doc) canonical _ c.in_ok-axioms.ensures.axioms c.in_ok-axioms.ensures.distinct
    (c.in_ok-in_turtle.ensures.triples _ _ c.requires.turtle) (c.in_ok-in_turtle.ensures.same _ _ c.requires.turtle)
    (c.in_ok-in_manchester.ensures.same _ _ c.requires.manchester) c.in_ok-check_alone.ensures
