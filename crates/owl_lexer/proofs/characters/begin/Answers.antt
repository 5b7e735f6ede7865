-- The character is held, or no lexeme begins.
use Rattle.std.proofs.Common.{rules, refl, sym, subst, List, [], ◌∷◌, ℕ}
use Rattle.owl_lexer.specs.Holding.{NoneBeyond}
use Rattle.owl_lexer.proofs.HoldingLaws.{nothing_held}
use Rattle.std.proofs.lemmas.Result.{IfErr-weaker}
use Rattle.owl_lexer.specs.Hands.{begun_of}
use Rattle.owl_lexer.proofs.Feeding.{refuses_here, refuses_memory}
use Rattle.owl_lexer.proofs.characters.begin.Goals as goal

pub returns-in-None-clause-err : goal.returns-in-None-clause-err
returns-in-None-clause-err g c into =
    refuses_here g.L.TokenLanguage.automaton g.L.TokenLanguage.value_of c.args.hand.now c.args.c into c.requires.ready (search rules)
    (subst (λ (l : List ℕ). NoneBeyond g.L.TokenLanguage.automaton l 0) (sym c.requires.nothing) (nothing_held g.L.TokenLanguage.automaton))

pub returns-in_err-hold-in-Some-clause-err : goal.returns-in_err-hold-in-Some-clause-err
returns-in_err-hold-in-Some-clause-err g c =
    IfErr-weaker c.from_residual.result _ _
    (λ fault e into. refuses_memory g.L.TokenLanguage.automaton g.L.TokenLanguage.value_of (begun_of c.args.hand.now) (c.args.c ∷ []) into into fault e refl)
    (search rules)
