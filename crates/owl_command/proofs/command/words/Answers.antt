use Rattle.owl_command.proofs.Asking.{names_no_action, names_no_comparison, names_no_trial, no_names}
use Rattle.owl_command.proofs.command.words.Goals as goal

pub returns-in-Some-clause-none : goal.returns-in-Some-clause-none
returns-in-Some-clause-none c = λ refused. no_names _ _ _ c.in-Some.ensures.some (c.of_main.ensures.none refused)

pub returns-in-Some-clause-refused : goal.returns-in-Some-clause-refused
returns-in-Some-clause-refused c = λ none. c.of_main.ensures.refused (names_no_action _ _ _ c.in-Some.ensures.some.are none)

pub returns-in-Some-strip-clause-refused : goal.returns-in-Some-strip-clause-refused
returns-in-Some-strip-clause-refused c = λ none. c.same.ensures.refused (names_no_comparison _ _ c.in-Some-strip.ensures.some none)

pub returns-in-Some-strip-2-clause-refused : goal.returns-in-Some-strip-2-clause-refused
returns-in-Some-strip-2-clause-refused c = λ none. c.trial.ensures.refused (names_no_trial _ _ c.in-Some-strip-2.ensures.some none)
