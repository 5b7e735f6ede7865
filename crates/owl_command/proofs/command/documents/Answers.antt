use Rattle.std.proofs.Common.{None, map, string_bytes}
use Rattle.owl_command.proofs.Asking.{against_none}
use Rattle.owl_command.proofs.command.documents.Goals as goal

pub returns-in_err-texts_of-clause-refused : goal.returns-in_err-texts_of-clause-refused
returns-in_err-texts_of-clause-refused c = λ none. absurd (none None _ (against_none (map string_bytes c.args.words.now) (c.are_names.ensures.0 c.if-not-are_names.false)))

pub returns-clause-refused : goal.returns-clause-refused
returns-clause-refused c = λ none. absurd (none None _ (against_none (map string_bytes c.args.words.now) (c.are_names.ensures.0 c.if-not-are_names.false)))
