use Rattle.man_grammar.proofs.DocumentLaws.{read_one_way}
use Rattle.man_grammar.proofs.laws.documents_are_read_one_way.Goals as goal

pub returns : goal.returns
returns c = read_one_way
