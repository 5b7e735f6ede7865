use Rattle.std.proofs.Common.{None}
use Rattle.owl_reader.proofs.AlikeLaws.{read_alike}
use Rattle.ttl_grammar.proofs.PageLaws.{table_to_page}
use Rattle.ttl_read.proofs.reader.Reader.new.Goals as goal

pub returns : goal.returns
returns c = read_alike table_to_page (c.in_ok-new.ensures None c.new-assembler.ensures)
