use Rattle.fss_acts.proofs.Telling.{may_name, tells_name}
use Rattle.fss_acts.proofs.assembler.Assembler.do_all.Goals as goal

pub name_prefix-requires-clause-may : goal.name_prefix-requires-clause-may
name_prefix-requires-clause-may c =
    may_name c.args.acts.now c.args.next.now c.args.self.now (c.is_naming.ensures.0 c.if-is_naming.true) c.requires.ready

pub returns-then-is_naming : goal.returns-then-is_naming
returns-then-is_naming c =
    tells_name c.args.acts.now c.args.next.now c.args.self.now c.name_prefix.new.self c.name_prefix.result (c.is_naming.ensures.0 c.if-is_naming.true) c.name_prefix.ensures
