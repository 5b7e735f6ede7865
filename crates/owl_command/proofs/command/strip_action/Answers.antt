use Rattle.owl_command.proofs.Asking.{no_action, none_more}
use Rattle.owl_command.proofs.command.strip_action.Goals as goal

pub returns-clause-none : goal.returns-clause-none
returns-clause-none c =
    none_more _ _ _ (no_action _ c.in_default.ensures.none c.in_default-strip_check.ensures.none c.in_default-strip_declaration.ensures.none) c.strip_verb.ensures.none
