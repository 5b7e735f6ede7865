-- A portion more was taken, or refused; and all were taken.
use Rattle.std.proofs.Common.{arith, rules}
use Rattle.owl_characters.proofs.ResultLaws.{passed}
use Rattle.owl_reader.proofs.Streams.{all_left, begins_within, more_left, none_so_far, rest_refused}
use Rattle.owl_reader.proofs.stream.take.Goals as goal

pub loop-count-init : goal.loop-count-init
loop-count-init g c = none_so_far c.args.piece.now c.requires

pub returns-in_err-count-clause-refuses : goal.returns-in_err-count-clause-refuses
returns-in_err-count-clause-refuses g c =
    passed c.from_residual.result c.in_err-count.field-0.0 _ c.from_residual.ensures.1
    (λ other context bytes o. rest_refused bytes c.args.piece.now c.loop-count.place (c.in_err-count.ensures.refuses other context _ (c.loop-count.invariant.takes context bytes o)))

pub loop-count-smaller : goal.loop-count-smaller
loop-count-smaller g c =
    let more = more_left c.args.piece.now c.loop-count.place c.in-Some.count c.in_ok-count.field-0 c.in-Some.is c.loop-count.invariant c.in_ok-count.ensures.within c.in_ok-count.ensures.takes in
    omega (arith, c.in_ok-count.ensures.nearer (search rules), begins_within more.room.1)

pub loop-count-preserved : goal.loop-count-preserved
loop-count-preserved g c =
    more_left c.args.piece.now c.loop-count.place c.in-Some.count c.in_ok-count.field-0 c.in-Some.is c.loop-count.invariant c.in_ok-count.ensures.within c.in_ok-count.ensures.takes

pub returns-clause-takes : goal.returns-clause-takes
returns-clause-takes g c = all_left c.args.piece.now c.loop-count.place c.in_ok-count.field-0 c.in_default.is c.loop-count.invariant c.in_ok-count.ensures.takes
