use Rattle.std.proofs.Common.{Option, IfSome, IfNone, map, subst}
use Rattle.std.proofs.lemmas.Result.{IfOk-weaker}
use Rattle.owl_command.specs.Commands.{request_of}
use Rattle.owl_documents.specs.Documents.{parsed_of}
use Rattle.owl_answer.specs.Outcome.{heads_in}
use Rattle.owl_answer.specs.Runs.{HasImports}
use Rattle.owl_answer.specs.Answers.{IsMissingFor}
use Rattle.owl_answer.specs.declared.imports.Missing.{Missing}
use Rattle.owl_messages.specs.declared.answer.Answer.{Answer}
use Rattle.owl_answer.proofs.Wanting.{import_conclusion}
use Rattle.owl_answer.proofs.conclusion.conclude.Goals as goal
use Rattle.owl_messages.specs.Answers.{outcome_of}

pub returns-in-Some : goal.returns-in-Some
returns-in-Some c =
    IfOk-weaker c.refuse_import.result _ _ (λ (a : Answer) e. import_conclusion (request_of c.args.asked.command.now) (map parsed_of c.args.asked.docs.items) c.in-Some.missing c.name.result.now (outcome_of a) (subst (λ (found : Option Missing). IfSome found (IsMissingFor (request_of c.args.asked.command.now) (heads_in (map parsed_of c.args.asked.docs.items)))) c.in-Some.is c.in_ok-missing.ensures.some) c.name.ensures e) c.refuse_import.ensures

pub answer_guessed-requires-clause-imports : goal.answer_guessed-requires-clause-imports
answer_guessed-requires-clause-imports c =
    subst (λ (found : Option Missing). IfNone found (HasImports (request_of c.args.asked.command.now) (map parsed_of c.args.asked.docs.items))) c.in-None.is c.in_ok-missing.ensures.none
