use Rattle.fss_acts.proofs.Begun.{text_begun}
use Rattle.fss_acts.proofs.assembler.Assembler.keep_text.Goals as goal

pub returns : goal.returns
returns c = text_begun c.args.self.now c.is_full.result c.args.tag c.args.form c.requires.row c.is_full.ensures c.if-is_full.false
