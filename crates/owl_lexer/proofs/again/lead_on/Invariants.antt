-- The runs before the place were taken over the character.
use Rattle.std.proofs.Common.{ℕ, List, Bool, ◌∷◌}
use Rattle.std.specs.List.{All}
use Rattle.owl_lexer.specs.Retaking.{IsLostRun}
use Rattle.owl_lexer.proofs.Lost.{LeadOn}
use Rattle.owl_lexer.proofs.again.lead_on.Given as goal

abbrev pub invariant-loop-run : goal.invariant-loop-run
invariant-loop-run g l =
    (ended : Bool) (held cs : List ℕ) → All (IsLostRun g.L.TokenLanguage.automaton ended held (l.c ∷ cs)) l.fn.lost.items → LeadOn g.L.TokenLanguage.automaton ended held l.c cs l.run-index l.run-items
