-- A portion of the last tokens is taken, or one of them is refused, or what stands behind them is.
use Rattle.std.proofs.Common.{rules}
use Rattle.owl_characters.proofs.ResultLaws.{passed}
use Rattle.owl_reader.proofs.Streams.{all_taken, ends_more, ending_refused, refused_last, stopped_last}
use Rattle.owl_reader.proofs.stream.take_some_last.Goals as goal

pub returns-in_ok-take_all-in-Ok-clause-all : goal.returns-in_ok-take_all-in-Ok-clause-all
returns-in_ok-take_all-in-Ok-clause-all g c = λ is context bytes o. all_taken o c.new-tokens.ensures.items (c.in-Ok.ensures.all is) (c.in_ok-take_all-in-Ok.ensures.takes context o.steps o.stands)

pub returns-in_ok-take_all-in-Ok-clause-some : goal.returns-in_ok-take_all-in-Ok-clause-some
returns-in_ok-take_all-in-Ok-clause-some g c = λ is context bytes o. ends_more o c.new-tokens.ensures.items (c.in-Ok.ensures.more is) c.in-Ok.ensures.open_yet.1 (c.in_ok-take_all-in-Ok.ensures.takes context o.steps o.stands)

pub returns-in_err-take_all-in-Ok-clause-refuses : goal.returns-in_err-take_all-in-Ok-clause-refuses
returns-in_err-take_all-in-Ok-clause-refuses g c = passed c.from_residual.result c.in_err-take_all-in-Ok.field-0.0 _ c.from_residual.ensures.1
    (λ other context bytes o. ending_refused c.in-Ok.done c.tokens_come_always.ensures.rest o c.new-tokens.ensures.items c.in-Ok.ensures.all c.in-Ok.ensures.more (c.in_err-take_all-in-Ok.ensures.refuses other context o.steps o.stands))

pub returns-in_ok-take_all-in-Err-clause-refuses : goal.returns-in_ok-take_all-in-Err-clause-refuses
returns-in_ok-take_all-in-Err-clause-refuses g c = λ other context bytes o. stopped_last o c.new-tokens.ensures.items (c.in-Err.ensures.bad o.lexer_open (search rules)) (c.in_ok-take_all-in-Err.ensures.takes context o.steps o.stands) c.refusal_of.ensures

pub returns-in_err-take_all-in-Err-clause-refuses : goal.returns-in_err-take_all-in-Err-clause-refuses
returns-in_err-take_all-in-Err-clause-refuses g c = passed c.from_residual-in_err-take_all-in-Err.result c.in_err-take_all-in-Err.field-0.0 _ c.from_residual-in_err-take_all-in-Err.ensures.1
    (λ other context bytes o. refused_last o c.new-tokens.ensures.items (c.in-Err.ensures.bad o.lexer_open (search rules)) (c.in_err-take_all-in-Err.ensures.refuses other context o.steps o.stands))
