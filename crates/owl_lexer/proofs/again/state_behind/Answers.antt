-- One more character leads on, or nowhere.
use Rattle.std.proofs.Common.{Some, sym, ap, ◌∙◌}
use Rattle.owl_lexer.proofs.Feeding.{item_is}
use Rattle.owl_lexer.proofs.Lost.{no_state, state_more}
use Rattle.owl_lexer.proofs.again.state_behind.Goals as goal

pub returns-in_err-state : goal.returns-in_err-state
returns-in_err-state g c =
    c.from_residual.ensures
    ∙ sym (no_state g.L.TokenLanguage.automaton (Some c.args.state) c.args.chars.now c.loop-c.c-index c.loop-c.state c.loop-c-test.true c.loop-c.invariant
    (ap (g.L.TokenLanguage.automaton.step c.loop-c.state) (sym (item_is c.args.chars.now c.loop-c.c-index c.c-item.result c.loop-c-test.true c.c-item.is)) ∙ sym c.in_err-state.ensures))

pub loop-c-preserved : goal.loop-c-preserved
loop-c-preserved g c =
    state_more g.L.TokenLanguage.automaton (Some c.args.state) c.args.chars.now c.loop-c.c-index c.loop-c.state c.in_ok-state.state c.loop-c-test.true c.loop-c.invariant
    (ap (g.L.TokenLanguage.automaton.step c.loop-c.state) (sym (item_is c.args.chars.now c.loop-c.c-index c.c-item.result c.loop-c-test.true c.c-item.is)) ∙ sym c.in_ok-state.ensures)
