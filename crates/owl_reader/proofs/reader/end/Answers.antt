use Rattle.owl_reader.proofs.Reporting.{can_end, is_read, refused_end}
use Rattle.owl_characters.proofs.ResultLaws.{passed}
use Rattle.owl_reader.proofs.reader.end.Goals as goal

pub returns-in_err-take_last-clause-refuses : goal.returns-in_err-take_last-clause-refuses
returns-in_err-take_last-clause-refuses g c = passed c.from_residual.result c.in_err-take_last.field-0.0 _ c.from_residual.ensures.1 (λ other context bytes fed o. c.in_err-take_last.ensures.refuses other context bytes o)

pub end-requires : goal.end-requires
end-requires g c = record { stands = (c.requires.room.0, can_end (c.in_ok-take_last.ensures.takes c.requires.room.0 c.requires.room.1.bytes c.requires.room.1.open_yet)) }

pub returns-in_err-end-clause-refuses : goal.returns-in_err-end-clause-refuses
returns-in_err-end-clause-refuses g c = passed c.from_residual-in_err-end.result c.in_err-end.field-0.0 _ c.from_residual-in_err-end.ensures.1 (λ other context bytes fed o. let a = c.in_ok-take_last.ensures.takes context bytes o in refused_end c.args.fed c.in_err-end.field-0.0 a fed (c.in_err-end.ensures.refuses other context a.steps a.stands))

pub returns-clause-read : goal.returns-clause-read
returns-clause-read g c = λ context bytes few o. let a = c.in_ok-take_last.ensures.takes context bytes o in is_read a few (c.in_ok-end.ensures.ends context a.steps a.stands)
