use Rattle.std.proofs.Common.{refl}
use Rattle.fss_acts.proofs.Put.{roomy}
use Rattle.fss_acts.proofs.Begun.{construct_opened}
use Rattle.fss_acts.proofs.assembler.Assembler.open.Goals as goal

pub returns-in-Ok : goal.returns-in-Ok
returns-in-Ok c = λ next m h ready.
    construct_opened c.args.self.now c.open.new.self c.args.tag _ refl c.requires.row next c.made.ensures.begun c.open.ensures.rest c.in-Ok.ensures.opened (λ fs w. roomy c.open.result _ c.in-Ok.field-0 _ c.in-Ok.is (c.open.ensures.too_deep fs w)) m h ready
