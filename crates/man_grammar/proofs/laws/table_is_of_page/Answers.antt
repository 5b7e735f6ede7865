use Rattle.man_grammar.proofs.PageTable.{stands_for_page}
use Rattle.man_grammar.proofs.laws.table_is_of_page.Goals as goal

pub returns : goal.returns
returns c = stands_for_page
