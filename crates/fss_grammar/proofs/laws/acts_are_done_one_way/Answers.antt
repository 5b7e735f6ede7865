use Rattle.fss_grammar.proofs.OneWayLaws.{acts_one_way, does_one_way}
use Rattle.fss_grammar.proofs.laws.acts_are_done_one_way.Goals as goal

pub returns : goal.returns
returns c = record { act = acts_one_way; events = does_one_way }
