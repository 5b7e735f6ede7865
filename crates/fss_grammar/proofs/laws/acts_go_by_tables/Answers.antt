use Rattle.fss_grammar.specs.ActingLaws.{acts_by_table, performs_alike}
use Rattle.fss_grammar.proofs.laws.acts_go_by_tables.Goals as goal

pub returns : goal.returns
returns c = record { alike = performs_alike; by_table = acts_by_table }
