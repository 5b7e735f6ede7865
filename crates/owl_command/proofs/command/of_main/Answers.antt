use Rattle.owl_command.specs.declared.command.WordsFault.TheVariants.{Words}
use Rattle.owl_command.proofs.Asking.{err_is, none_stripped, ok_is_none, passed_on}
use Rattle.owl_command.proofs.command.of_main.Goals as goal

pub returns-in_err-base-clause-refused : goal.returns-in_err-base-clause-refused
returns-in_err-base-clause-refused c = λ none.
    passed_on c.from_residual.result _ Words c.from_residual.ensures.1 (err_is c.in_err-base.field-0.0 Words (c.in_err-base.ensures.refused (none_stripped _ _ _ _ _ c.strip_flag-partial.ensures c.strip_flag-guess.ensures none)))

pub returns-clause-refused : goal.returns-clause-refused
returns-clause-refused c = λ none. absurd (ok_is_none (c.in_ok-base.base, c.in_ok-base.names) Words (c.in_ok-base.ensures.refused (none_stripped _ _ _ _ _ c.strip_flag-partial.ensures c.strip_flag-guess.ensures none)))
