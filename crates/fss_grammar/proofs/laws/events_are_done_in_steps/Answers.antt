use Rattle.fss_grammar.specs.DoingLaws.{does_in_steps, done_at_end, done_with_token}
use Rattle.fss_grammar.proofs.laws.events_are_done_in_steps.Goals as goal

pub returns : goal.returns
returns c = record { token = done_with_token; end = done_at_end; back = does_in_steps }
