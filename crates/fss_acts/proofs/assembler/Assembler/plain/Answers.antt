use Rattle.fss_acts.proofs.Keeping.{plain_made}
use Rattle.fss_acts.proofs.assembler.Assembler.plain.Goals as goal

pub returns : goal.returns
returns c = λ next m h ready.
    plain_made c.args.self.now m h c.take_text-tag.result.0 c.take_text-tag.result.1 c.take_text-tag.ensures.was ready c.take_text-tag.new.kept c.in_ok-literal.literal c.put_leaf.new.maker c.put_leaf.result next c.take_text-tag.ensures.now c.in_ok-literal.ensures.ok c.put_leaf.ensures
