-- The page and the table of Functional-Style Syntax have the same alternatives, so the same derives from both.
use Rattle.std.proofs.Common.{sym}
use Rattle.grammar.proofs.AlikeLaws.{AreAlike, table_is_alike}
use Rattle.fss_grammar.proofs.PageTable.{stands_for_page}
use Rattle.fss_grammar.specs.Page.{functional_page}
use Rattle.fss_grammar.specs.Table.{functional}

pub table_to_page : AreAlike functional functional_page
unfolding functional_page
table_to_page = table_is_alike stands_for_page

pub page_to_table : AreAlike functional_page functional
page_to_table = sym table_to_page
