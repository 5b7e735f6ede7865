-- No act has a number behind the last.
use Rattle.std.proofs.Common.{arith, sym}
use Rattle.man_grammar.proofs.Words.{no_act}
use Rattle.man_grammar.proofs.act.Act.numbered.Goals as goal

pub returns-in_default : goal.returns-in_default
returns-in_default c =
    let others = c.in_default in
    sym (no_act c.args.number (omega arith))
