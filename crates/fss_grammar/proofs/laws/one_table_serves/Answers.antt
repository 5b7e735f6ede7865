use Rattle.fss_grammar.proofs.OneTableLaws.{made_is_done}
use Rattle.fss_grammar.proofs.laws.one_table_serves.Goals as goal

pub returns : goal.returns
returns c = made_is_done
