-- The page and the table of Turtle have the same alternatives, so the same derives from both.
use Rattle.std.proofs.Common.{sym}
use Rattle.grammar.proofs.AlikeLaws.{AreAlike, table_is_alike}
use Rattle.ttl_grammar.proofs.PageTable.{stands_for_page}
use Rattle.ttl_grammar.specs.Page.{turtle_page}
use Rattle.ttl_grammar.specs.Table.{turtle}

pub table_to_page : AreAlike turtle turtle_page
unfolding turtle_page
table_to_page = table_is_alike stands_for_page

pub page_to_table : AreAlike turtle_page turtle
page_to_table = sym table_to_page
