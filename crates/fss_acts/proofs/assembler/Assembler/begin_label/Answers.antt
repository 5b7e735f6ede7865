use Rattle.fss_acts.proofs.Begun.{label_begun}
use Rattle.fss_acts.proofs.assembler.Assembler.begin_label.Goals as goal

pub returns : goal.returns
returns c =
    label_begun c.args.self.now c.put_leaf.new.maker c.put_leaf.result c.args.tag c.args.next.now c.label_in.result.now c.in_ok-label.label c.label_in.ensures c.in_ok-label.ensures c.requires.row c.requires.token c.put_leaf.ensures
