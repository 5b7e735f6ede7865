-- The runs so far are lost behind the front.
use Rattle.std.proofs.Common.{[], ◌++◌, drop}
use Rattle.std.specs.List.{All}
use Rattle.owl_lexer.specs.Retaking.{IsLostRun, coming}
use Rattle.owl_lexer.proofs.again.lost_behind.Given as goal

abbrev pub invariant-loop-run : goal.invariant-loop-run
invariant-loop-run g l =
    All (IsLostRun g.L.TokenLanguage.automaton l.again.ended [] (drop l.front.length l.hand.held.items ++ coming l.again)) l.behind.items
