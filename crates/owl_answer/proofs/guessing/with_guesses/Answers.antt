use Rattle.std.proofs.Common.{◌<◌, ℕ, length, map, refl, subst, sym, not}
use Rattle.std.proofs.lemmas.Result.{IfOk-weaker}
use Rattle.owl_command.specs.Commands.{request_of}
use Rattle.owl_documents.specs.Documents.{parsed_of}
use Rattle.owl_answer.proofs.GuessedDocuments.{guessed_not, guessed_so, guesses_some}
use Rattle.owl_answer.proofs.guessing.with_guesses.Goals as goal

pub guess_all-requires : goal.guess_all-requires
guess_all-requires c =
    subst (λ (n : ℕ). 0 < n) (sym c.requires.each) (guesses_some (request_of c.args.command.now) c.requires.allowed (c.guesses.ensures.0 c.if-guesses.true))

pub returns-then-guesses : goal.returns-then-guesses
returns-then-guesses c =
    IfOk-weaker c.guess_all.result _ _
    (λ (gs : _) h. guessed_so (request_of c.args.command.now) (map parsed_of c.args.docs.items) (map parsed_of gs.items) (c.guesses.ensures.0 c.if-guesses.true) h)
    c.guess_all.ensures
