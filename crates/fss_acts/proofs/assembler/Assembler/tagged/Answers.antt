use Rattle.fss_acts.proofs.Keeping.{tagged_made}
use Rattle.fss_acts.proofs.assembler.Assembler.tagged.Goals as goal

pub returns : goal.returns
returns c = λ m h ready.
    tagged_made c.args.self.now m h c.take_text-tag.result.0 c.take_text-tag.result.1 c.take_text-tag.ensures.was ready.0 c.take_text-tag.new.kept c.in_ok-literal.literal c.put_leaf.new.maker c.put_leaf.result c.args.next.now c.language_in-language.result.now c.take_text-tag.ensures.now c.language_in-language.ensures c.in_ok-literal.ensures.ok c.put_leaf.ensures
