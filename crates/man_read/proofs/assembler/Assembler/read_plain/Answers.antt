use Rattle.man_read.proofs.ShowingLaws.{plain_is}
use Rattle.man_read.proofs.assembler.Assembler.read_plain.Goals as goal

pub returns : goal.returns
returns c = λ state h. plain_is c.args.self.now state h c.plain_atom-literal.result c.put.result c.put.new.self c.plain_atom-literal.ensures c.put.ensures
