-- The run in hand stands where one stands that is lost, or its character leads nowhere.
use Rattle.std.proofs.Common.{◌∷◌, refl, sym, ◌∙◌}
use Rattle.owl_lexer.proofs.Lost.{lost_stuck}
use Rattle.owl_lexer.proofs.again.leading.Goals as goal

pub returns-then-is_lost-clause-lost : goal.returns-then-is_lost-clause-lost
returns-then-is_lost-clause-lost g c none ended held cs all = c.if-is_lost.ensures refl g.L.TokenLanguage.automaton ended held (c.args.c ∷ cs) all

pub returns-clause-lost : goal.returns-clause-lost
returns-clause-lost g c none ended held cs all = lost_stuck g.L.TokenLanguage.automaton ended c.args.state c.args.c cs (sym c.step.ensures ∙ none)
