use Rattle.fss_acts.proofs.Begun.{number_begun}
use Rattle.fss_acts.proofs.assembler.Assembler.begin_number.Goals as goal

pub returns-in-Some : goal.returns-in-Some
returns-in-Some c =
    number_begun c.args.self.now c.put_leaf.new.maker c.put_leaf.result c.args.tag c.args.next.now c.digits_in.result.now c.in-Some.number c.digits_in.ensures c.requires.row c.in-Some.ensures.0 c.in-Some.ensures.1 c.put_leaf.ensures
