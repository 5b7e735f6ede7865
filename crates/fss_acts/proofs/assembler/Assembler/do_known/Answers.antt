use Rattle.fss_acts.proofs.Telling.{tells_all, tells_unknown}
use Rattle.fss_acts.proofs.assembler.Assembler.do_known.Goals as goal

pub returns-in_err-made : goal.returns-in_err-made
returns-in_err-made c =
    tells_unknown c.args.acts.now c.args.next.now c.args.self.now _ c.from_residual.result c.in_err-made.field-0.0 _ c.requires.other c.in_err-made.ensures.unknown c.from_residual.ensures.1 (λ f is. is)

pub returns : goal.returns
returns c =
    tells_all c.args.acts.now c.args.next.now c.args.self.now c.perform_all.new.self c.perform_all.result c.in_ok-made.made c.in_ok-made.ensures.coming c.perform_all.ensures
