-- Characters are held again and the longest lexeme in front is cut, until nothing is taken again.
use Rattle.std.proofs.Common.{rules, refl}
use Rattle.std.proofs.lemmas.Result.{IfErr-weaker}
use Rattle.owl_characters.proofs.ResultLaws.{passed}
use Rattle.owl_lexer.specs.Retaking.{begun_with}
use Rattle.owl_lexer.proofs.Cuts.{again_behind, again_memory, settles_badly, settles_more}
use Rattle.owl_lexer.proofs.again.settle.Goals as goal

pub returns-in_err-hold_again-clause-err : goal.returns-in_err-hold_again-clause-err
returns-in_err-hold_again-clause-err g c =
    IfErr-weaker c.from_residual.result _ _
    (λ fault e. again_behind g.L.TokenLanguage.automaton g.L.TokenLanguage.value_of c.args.again.now.ended (begun_with c.args.hand.now c.args.again.now) (begun_with c.loop-hand.hand c.loop-hand.again) c.args.into.now.items c.loop-hand.into.items c.loop-hand.into.items fault c.loop-hand.invariant.adds
    (again_memory g.L.TokenLanguage.automaton g.L.TokenLanguage.value_of c.args.again.now.ended (begun_with c.loop-hand.hand c.loop-hand.again) c.loop-hand.into.items c.loop-hand.into.items fault e refl))
    (search rules)

pub returns-in_err-cut-clause-err : goal.returns-in_err-cut-clause-err
returns-in_err-cut-clause-err g c =
    let fault = c.in_err-cut.field-0.0 in
    passed c.from_residual-in_err-cut.result fault _ c.from_residual-in_err-cut.ensures.1
    (settles_badly g.L.TokenLanguage.automaton g.L.TokenLanguage.value_of c.args.hand.now c.loop-hand.hand c.hold_again.new.hand c.args.again.now c.loop-hand.again c.hold_again.new.again c.args.into.now.items c.loop-hand.into.items c.cut.new.into.items fault c.loop-hand.invariant c.in_ok-hold_again.ensures.holds c.in_err-cut.ensures.err)

pub loop-hand-preserved : goal.loop-hand-preserved
loop-hand-preserved g c =
    settles_more g.L.TokenLanguage.automaton g.L.TokenLanguage.value_of c.args.hand.now c.loop-hand.hand c.hold_again.new.hand c.cut.new.hand c.args.again.now c.loop-hand.again c.hold_again.new.again c.cut.new.again c.args.into.now.items c.loop-hand.into.items c.cut.new.into.items c.loop-hand.invariant c.in_ok-hold_again.ensures.holds c.in_ok-cut.ensures.ok
