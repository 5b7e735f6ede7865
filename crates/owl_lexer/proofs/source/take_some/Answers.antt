-- Some bytes more were taken, or refused.
use Rattle.std.proofs.Common.{arith}
use Rattle.owl_characters.proofs.ResultLaws.{passed}
use Rattle.owl_lexer.proofs.Moving.{again_on, again_refused}
use Rattle.owl_lexer.proofs.Runs.{rest_length}
use Rattle.owl_lexer.proofs.source.take_some.Goals as goal

pub returns-in_err-place-clause-err : goal.returns-in_err-place-clause-err
returns-in_err-place-clause-err g c =
    let fault = c.in_err-place.field-0.0 in
    passed c.from_residual-in_err-place.result fault _ c.from_residual-in_err-place.ensures.1
    (again_refused g.L.TokenLanguage.automaton g.L.TokenLanguage.value_of c.args.source.now c.loop-place.source c.args.again.now c.loop-place.again c.args.bytes.now c.loop-place.place c.args.into.now.items c.loop-place.into.items c.take_front.new.into.items fault c.loop-place.invariant.2 c.in_err-place.ensures.err)

pub loop-place-preserved : goal.loop-place-preserved
loop-place-preserved g c =
    let within = c.in_ok-place.ensures.within in (
      omega (arith, within.1, rest_length c.args.bytes.now c.loop-place.place, c.loop-place-test.true),
      c.in_ok-place.ensures.done,
      again_on g.L.TokenLanguage.automaton g.L.TokenLanguage.value_of c.args.source.now c.loop-place.source c.take_front.new.source c.args.again.now c.loop-place.again c.take_front.new.again c.args.bytes.now c.loop-place.place c.in_ok-place.field-0 c.args.into.now.items c.loop-place.into.items c.take_front.new.into.items c.loop-place.invariant.2 c.in_ok-place.ensures.ok,
    )
