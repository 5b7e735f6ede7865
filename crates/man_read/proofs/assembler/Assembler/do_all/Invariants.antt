use Rattle.std.proofs.Common.{◌≡◌, Ok, take}
use Rattle.man_grammar.specs.Runs.{all_done}
use Rattle.man_grammar.specs.States.{State}
use Rattle.man_read.specs.Showing.{Shows}
use Rattle.man_read.proofs.assembler.Assembler.do_all.Given as goal

-- the acts so far were done
abbrev pub invariant-loop-act : goal.invariant-loop-act
invariant-loop-act l = (state : State) → Shows l.fn.self state → (s : State) × (all_done (take l.act-index l.acts) l.next state ≡ Ok s) × Shows l.self s
