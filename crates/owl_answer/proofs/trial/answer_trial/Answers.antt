use Rattle.std.proofs.Common.{◌∙◌, Err, List, ℕ, ap, subst}
use Rattle.std.proofs.lemmas.Result.{IfOk-weaker}
use Rattle.owl_documents.specs.Documents.{parsed_of}
use Rattle.owl_documents.specs.Reading.{AreReadUnder, IsDefectUnder}
use Rattle.owl_documents.specs.declared.document.Syntax.TheVariants.{Functional}
use Rattle.owl_messages.specs.Answers.{outcome_of}
use Rattle.owl_messages.specs.declared.answer.Answer.{Answer}
use Rattle.owl_answer.proofs.TrialLaws.{an_ontology_read, trial_read, trial_refused}
use Rattle.owl_answer.proofs.Wanting.{from_both}
use Rattle.owl_answer.proofs.trial.answer_trial.Goals as goal

pub try_document-requires : goal.try_document-requires
try_document-requires c = an_ontology_read _ (parsed_of c.in-Ok.document) c.in-Ok.ensures.reads

pub returns-in-Ok : goal.returns-in-Ok
returns-in-Ok c =
    let bytes = c.as_bytes.ensures.value ∙ c.in_ok-text.ensures in
    let parsed = parsed_of c.in-Ok.document in
    let reads = subst (λ (bs : List ℕ). AreReadUnder Functional bs parsed) bytes c.in-Ok.ensures.reads in
    IfOk-weaker c.try_document.result _ _ (λ (a : Answer) h. trial_read c.args.size c.requires parsed (outcome_of a) reads h) c.try_document.ensures

pub returns : goal.returns
returns c =
    let bytes = c.as_bytes.ensures.value ∙ c.in_ok-text.ensures in
    let trouble = c.in-Err.trouble in
    let defect = subst (λ (bs : List ℕ). IsDefectUnder Functional bs trouble) bytes c.in-Err.ensures.refuses in
    from_both c.answer_trouble.result _ _ _ (λ (a : Answer) e m. trial_refused c.args.size c.requires trouble (outcome_of a) defect c.in-Err.ensures.proper (λ failed. c.in-Err.ensures.read (ap Err failed)) m e) c.answer_trouble.ensures.outcome c.answer_trouble.ensures.memory
