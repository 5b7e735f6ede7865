-- One more run was taken over the character; and all were.
use Rattle.std.proofs.Common.{arith, refl, subst, sym, ◌≡◌, ◌∙◌, ◌∷◌, length, vec_len}
use Rattle.std.specs.List.{All}
use Rattle.owl_lexer.specs.Retaking.{IsLostRun}
use Rattle.owl_lexer.proofs.Lost.{leads_back, leads_more, leads_none}
use Rattle.owl_lexer.proofs.again.lead_on.Goals as goal

pub loop-run-preserved : goal.loop-run-preserved
loop-run-preserved g c ended held cs all =
    leads_more g.L.TokenLanguage.automaton ended held c.args.c cs c.loop-run.run-index c.loop-run.run-items _ _ (omega (arith, c.loop-run.auto.run-items, c.loop-run-test.true)) refl c.lead-run.ensures (c.loop-run.invariant ended held cs all)

pub returns : goal.returns
returns g c ended held cs all =
    let whole : length c.loop-run.run-items ≡ vec_len c.args.lost.now = c.loop-run.auto.run-items ∙ c.deref_mut-run-items.ensures.len in
    leads_back g.L.TokenLanguage.automaton ended held c.args.c cs c.loop-run.run-index c.loop-run.run-items _ (vec_len c.args.lost.now) whole (omega (arith, c.loop-run.auto.run-items, c.loop-run-test.false)) (c.loop-run.invariant ended held cs all)

pub loop-run-init : goal.loop-run-init
loop-run-init g c ended held cs all = leads_none g.L.TokenLanguage.automaton ended held c.args.c cs c.deref_mut-run-items.result.now (subst (All (IsLostRun g.L.TokenLanguage.automaton ended held (c.args.c ∷ cs))) (sym c.deref_mut-run-items.ensures.value) all)
