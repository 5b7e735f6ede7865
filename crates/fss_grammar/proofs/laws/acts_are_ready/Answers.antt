use Rattle.fss_grammar.proofs.ReadyFeedingLaws.{fed_acts_are_ready, last_acts_are_ready}
use Rattle.fss_grammar.proofs.ReadyLaws.{acts_are_ready}
use Rattle.fss_grammar.proofs.laws.acts_are_ready.Goals as goal

pub returns : goal.returns
returns c = record { along = acts_are_ready; before = fed_acts_are_ready; last = last_acts_are_ready }
