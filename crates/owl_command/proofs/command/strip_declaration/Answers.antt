use Rattle.std.proofs.Common.{◌≢◌, ◌++◌, List, ℕ, map, string_bytes}
use Rattle.owl_command.specs.Commands.{action_words}
use Rattle.owl_command.specs.declared.command.Action.TheVariants.{Declare}
use Rattle.owl_command.specs.declared.command.Target.{Target}
use Rattle.owl_command.proofs.Asking.{if_none}
use Rattle.owl_command.proofs.command.strip_declaration.Goals as goal

pub returns-in_err-strip-clause-none : goal.returns-in_err-strip-clause-none
returns-in_err-strip-clause-none c =
    let none : (target : Target) (others : List (List ℕ)) → map string_bytes c.args.words.now ≢ action_words (Declare target) ++ others = λ target others e. c.in_err-strip.ensures.none _ e in
    if_none _ _ none
