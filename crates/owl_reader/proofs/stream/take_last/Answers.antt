-- A portion more was taken, or refused; and all were taken.
use Rattle.owl_characters.proofs.ResultLaws.{passed}
use Rattle.owl_reader.proofs.Streams.{more_ended, none_ended, open_ends}
use Rattle.owl_reader.proofs.stream.take_last.Goals as goal

pub loop-init : goal.loop-init
loop-init g c = none_ended c.requires

pub take_some_last-requires : goal.take_some_last-requires
take_some_last-requires g c = c.loop.invariant.can

pub returns-in_err-take_some_last-clause-refuses : goal.returns-in_err-take_some_last-clause-refuses
returns-in_err-take_some_last-clause-refuses g c =
    passed c.from_residual.result c.in_err-take_some_last.field-0.0 _ c.from_residual.ensures.1
    (λ other context bytes o. c.in_err-take_some_last.ensures.refuses other context bytes (c.loop.invariant.takes context bytes (open_ends o)))

pub loop-preserved : goal.loop-preserved
loop-preserved g c = more_ended c.loop.invariant (c.in_ok-take_some_last.ensures.some c.if-not-branch.true)

pub returns-clause-takes : goal.returns-clause-takes
returns-clause-takes g c = λ context bytes o. c.in_ok-take_some_last.ensures.all c.if-not-branch.false context bytes (c.loop.invariant.takes context bytes (open_ends o))
