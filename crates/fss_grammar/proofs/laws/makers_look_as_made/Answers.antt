use Rattle.fss_grammar.proofs.OutlineLaws.{resembles_act, resembles_beginning, resembles_token}
use Rattle.fss_grammar.proofs.laws.makers_look_as_made.Goals as goal

pub returns : goal.returns
returns c = record { beginning = resembles_beginning; act = resembles_act; token = resembles_token }
