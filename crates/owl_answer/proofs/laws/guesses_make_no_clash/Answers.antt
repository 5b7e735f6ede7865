use Rattle.owl_answer.proofs.GuessedClashes.{guesses_clash_alike}
use Rattle.owl_answer.proofs.laws.guesses_make_no_clash.Goals as goal

pub returns : goal.returns
returns c = guesses_clash_alike
