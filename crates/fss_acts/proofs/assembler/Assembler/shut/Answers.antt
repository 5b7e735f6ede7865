use Rattle.fss_acts.proofs.Items.{construct_shut}
use Rattle.fss_acts.proofs.assembler.Assembler.shut.Goals as goal

pub returns-in-Ok : goal.returns-in-Ok
returns-in-Ok c = λ next.
    construct_shut c.args.self.now c.shut.new.self next c.made.ensures.begun c.shut.ensures.rest c.in-Ok.ensures.shut
