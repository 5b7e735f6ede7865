-- The page and the table of Manchester Syntax have the same alternatives, so the same derives from both.
use Rattle.std.proofs.Common.{sym}
use Rattle.grammar.proofs.AlikeLaws.{AreAlike, table_is_alike}
use Rattle.man_grammar.proofs.PageTable.{stands_for_page}
use Rattle.man_grammar.specs.Page.{manchester_page}
use Rattle.man_grammar.specs.Table.{manchester}

pub table_to_page : AreAlike manchester manchester_page
unfolding manchester_page
table_to_page = table_is_alike stands_for_page

pub page_to_table : AreAlike manchester_page manchester
page_to_table = sym table_to_page
