use Rattle.std.proofs.Common.{length, map}
use Rattle.std.proofs.lemmas.Result.{IfOk-weaker}
use Rattle.owl_command.specs.Commands.{names_of, request_of}
use Rattle.owl_documents.specs.Documents.{parsed_of}
use Rattle.owl_messages.specs.Answers.{outcome_of}
use Rattle.owl_messages.specs.declared.answer.Answer.{Answer}
use Rattle.owl_answer.proofs.GuessedDocuments.{guessed_conclusion, guessed_each}
use Rattle.owl_answer.proofs.conclusion.answer_guessed.Goals as goal

pub answer_command-requires : goal.answer_command-requires
answer_command-requires c =
    let request = request_of c.args.asked.command.now in
    record {
      allowed = c.requires.asked.allowed;
      each = guessed_each request c.args.asked.docs.items c.in_ok-docs.docs.items (length (names_of request)) c.in_ok-docs.ensures c.requires.asked.each;
    }

pub returns : goal.returns
returns c =
    IfOk-weaker c.answer_command.result _ _
    (λ (a : Answer) h. guessed_conclusion (request_of c.args.asked.command.now) (map parsed_of c.args.asked.docs.items) (map parsed_of c.in_ok-docs.docs.items) (outcome_of a) c.requires.imports c.in_ok-docs.ensures h)
    c.answer_command.ensures
