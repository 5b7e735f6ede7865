use Rattle.std.proofs.Common.{refl}
use Rattle.std.proofs.lemmas.Result.{IfOk-weaker}
use Rattle.owl_documents.specs.Documents.{an_ontology, in_functional, said_of}
use Rattle.owl_messages.specs.declared.answer.Answer.{Answer}
use Rattle.owl_answer.proofs.declaring.tell_whole.Goals as goal
use Rattle.owl_messages.specs.Answers.{outcome_of}

pub returns : goal.returns
returns c =
    IfOk-weaker c.told_as_declared.result _ _ (λ (a : Answer) e. record {
      ordered = c.is_empty.ensures.ordered;
      wanted = outcome_of c.in_ok-answer.answer;
      translated = c.in_ok-answer.ensures (an_ontology in_functional (said_of c.args.whole.now)) refl;
      told = e;
    }) c.told_as_declared.ensures
