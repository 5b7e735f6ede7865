-- What is asked, with the documents that are read for it.
use Rattle.std.specs.Prelude.{◌≡◌, Bool, List, ℕ, length, map}
use Rattle.owl_command.specs.declared.command.Options.{Options}
use Rattle.owl_command.specs.Commands.{IsAllowed, names_of, of_main, request_of}
use Rattle.owl_command.specs.declared.command.Action.{Action}
use Rattle.owl_documents.specs.Documents.{parsed_of}
use Rattle.owl_answer.specs.Answers.{IsAnswerBy, IsConclusion}
use Rattle.owl_answer.specs.UnderKinds.{ComparesTwo}
use Rattle.owl_messages.specs.declared.answer.Answer.{Answer}
use Rattle.owl_answer.specs.declared.asked.Asked.{Asked}
use Rattle.owl_messages.specs.Answers.{outcome_of}

-- what may be asked for, and a document for each name
pub record IsAsked (asked : Asked) : Type 0 where
  pub allowed : IsAllowed (request_of asked.command.now)
  pub each : length asked.docs.items ≡ length (names_of (request_of asked.command.now))

-- this action is asked for
pub record IsOfAction (asked : Asked) (action : Action) : Type 0 where
  pub asked_for : IsAsked asked
  pub options : Options
  pub names : List (List ℕ)
  pub asks : request_of asked.command.now ≡ of_main action options names

-- two documents are to be compared
pub record IsOfTwo (asked : Asked) : Type 0 where
  pub asked_for : IsAsked asked
  pub of_two : ComparesTwo (request_of asked.command.now)

-- it is what is answered by what these documents say
abbrev pub IsAnswerFor : Asked → Answer → Type 0
IsAnswerFor asked answer = IsAnswerBy (request_of asked.command.now) (map parsed_of asked.docs.items) (outcome_of answer)

-- it is what is answered for them
abbrev pub IsAnswerTo : Asked → Answer → Type 0
IsAnswerTo asked answer = IsConclusion (request_of asked.command.now) (map parsed_of asked.docs.items) (outcome_of answer)
