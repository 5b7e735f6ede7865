-- One byte more was taken, or refused, and then a run.
use Rattle.std.proofs.Common.{rules, arith, refl, ◌≡◌, ◌≤◌, ◌+◌, ◌-◌, length, take, drop}
use Rattle.std.proofs.lemmas.List.{length-take-le}
use Rattle.std.proofs.lemmas.Result.{IfErr-weaker}
use Rattle.std.proofs.lemmas.Str.{len_utf8_bounds}
use Rattle.owl_characters.proofs.ResultLaws.{passed}
use Rattle.owl_lexer.proofs.Runs.{refuses_ascii, refuses_run, rest_length, takes_ascii, takes_on, takes_run}
use Rattle.owl_lexer.proofs.source.take_ascii.Goals as goal

pub push-requires-clause-room : goal.push-requires-clause-room
push-requires-clause-room g c =
    let so_far : length (take c.loop-place.place c.args.bytes.now) ≡ c.loop-place.place = length-take-le c.loop-place.place c.args.bytes.now (omega (arith, c.loop-place-test.true)) in
    omega (arith, c.loop-place.invariant.2.end, c.loop-place.invariant.2.ready.ready.end, (len_utf8_bounds c.from.result).1, c.requires.room, c.loop-place-test.true)

pub returns-in_err-push-clause-err : goal.returns-in_err-push-clause-err
returns-in_err-push-clause-err g c =
    let fault = c.in_err-push.field-0.0 in
    passed c.from_residual.result fault _ c.from_residual.ensures.1
    (refuses_ascii g.L.TokenLanguage.automaton g.L.TokenLanguage.value_of c.args.source.now c.loop-place.source c.args.bytes.now c.loop-place.place c.from.result c.args.into.now.items c.loop-place.into.items c.push.new.into.items fault c.loop-place-test.true c.from.ensures c.if-bytes-place-lt128.true c.loop-place.invariant.1 c.loop-place.invariant.2 c.in_err-push.ensures.err)

pub hold_run-requires-clause-room : goal.hold_run-requires-clause-room
hold_run-requires-clause-room g c =
    let taken = takes_ascii g.L.TokenLanguage.automaton g.L.TokenLanguage.value_of c.args.source.now c.loop-place.source c.push.new.hand c.args.bytes.now c.loop-place.place c.from.result c.args.into.now.items c.loop-place.into.items c.push.new.into.items c.loop-place-test.true c.from.ensures c.if-bytes-place-lt128.true c.loop-place.invariant.1 c.loop-place.invariant.2 (c.in_ok-push.ensures.ok (search rules)) in
    let so_far : length (take (c.loop-place.place + 1) c.args.bytes.now) ≡ c.loop-place.place + 1 = length-take-le (c.loop-place.place + 1) c.args.bytes.now (omega (arith, c.loop-place-test.true)) in
    omega (arith, taken.end, taken.ready.ready.end, c.requires.room, c.loop-place-test.true, rest_length c.args.bytes.now (c.loop-place.place + 1))

pub returns-in_err-place-clause-err : goal.returns-in_err-place-clause-err
returns-in_err-place-clause-err g c =
    let taken = takes_ascii g.L.TokenLanguage.automaton g.L.TokenLanguage.value_of c.args.source.now c.loop-place.source c.push.new.hand c.args.bytes.now c.loop-place.place c.from.result c.args.into.now.items c.loop-place.into.items c.push.new.into.items c.loop-place-test.true c.from.ensures c.if-bytes-place-lt128.true c.loop-place.invariant.1 c.loop-place.invariant.2 (c.in_ok-push.ensures.ok (search rules)) in
    IfErr-weaker c.from_residual-in_err-place.result _ _
    (λ fault. refuses_run g.L.TokenLanguage.automaton g.L.TokenLanguage.value_of c.args.source.now _ c.args.bytes.now (c.loop-place.place + 1) c.args.into.now.items c.push.new.into.items fault taken)
    (search rules)

pub loop-place-preserved : goal.loop-place-preserved
loop-place-preserved g c =
    let taken = takes_ascii g.L.TokenLanguage.automaton g.L.TokenLanguage.value_of c.args.source.now c.loop-place.source c.push.new.hand c.args.bytes.now c.loop-place.place c.from.result c.args.into.now.items c.loop-place.into.items c.push.new.into.items c.loop-place-test.true c.from.ensures c.if-bytes-place-lt128.true c.loop-place.invariant.1 c.loop-place.invariant.2 (c.in_ok-push.ensures.ok (search rules)) in
    let count = c.in_ok-place.field-0 in
    let within : count ≤ _ = c.in_ok-place.ensures.within in
    let rest = take (length c.args.bytes.now - (c.loop-place.place + 1)) (drop (c.loop-place.place + 1) c.args.bytes.now) in (
      omega (arith, within, rest_length c.args.bytes.now (c.loop-place.place + 1), c.loop-place-test.true),
      c.loop-place.invariant.1,
      takes_on g.L.TokenLanguage.automaton g.L.TokenLanguage.value_of c.args.source.now _ _ c.args.bytes.now (c.loop-place.place + 1) count c.args.into.now.items c.push.new.into.items c.push.new.into.items taken
          (takes_run g.L.TokenLanguage.automaton g.L.TokenLanguage.value_of _ _ (take count rest) c.push.new.into.items taken.ready c.loop-place.invariant.1.0 c.loop-place.invariant.1.1 refl refl c.in_ok-place.ensures.holds),
    )
