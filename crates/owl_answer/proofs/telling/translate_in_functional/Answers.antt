use Rattle.std.proofs.Common.{◌∙◌}
use Rattle.owl_answer.proofs.ToldActions.{functional_told, written_told}
use Rattle.owl_answer.proofs.Wanting.{from_both}
use Rattle.owl_documents.specs.Documents.{said_of}
use Rattle.owl_messages.specs.declared.answer.Answer.{Answer}
use Rattle.owl_messages.specs.Answers.{outcome_of}
use Rattle.owl_answer.proofs.telling.translate_in_functional.Goals as goal

pub returns-then-asks : goal.returns-then-asks
returns-then-asks c =
    from_both c.translate_typed.result _ _ _ (λ (a : Answer) k b parsed graph. functional_told parsed c.args.kinds.now (said_of c.args.main.now) (outcome_of a) (graph ∙ c.if-asks.true) k b) c.translate_typed.ensures.outcome c.translate_typed.ensures.back

pub returns-else-asks : goal.returns-else-asks
returns-else-asks c =
    from_both c.translate_to_functional.result _ _ _ (λ (a : Answer) k b parsed graph. written_told parsed c.args.kinds.now (said_of c.args.main.now) (outcome_of a) (graph ∙ c.if-asks.false) k b) c.translate_to_functional.ensures.outcome c.translate_to_functional.ensures.back
