-- A portion of tokens is taken, or one of them is refused, or what stands behind them is.
use Rattle.std.proofs.Common.{rules}
use Rattle.owl_characters.proofs.ResultLaws.{passed}
use Rattle.owl_reader.proofs.Streams.{front_refused, open_more, refused_among, refused_before, stopped_there}
use Rattle.owl_reader.proofs.stream.take_some.Goals as goal

pub returns-in_ok-take_all-in-Ok-clause-takes : goal.returns-in_ok-take_all-in-Ok-clause-takes
returns-in_ok-take_all-in-Ok-clause-takes g c = λ context bytes o. open_more o c.new-tokens.ensures.items c.in-Ok.ensures.ok c.in-Ok.ensures.open_yet.1 c.in-Ok.ensures.end c.in-Ok.ensures.ends (c.in_ok-take_all-in-Ok.ensures.takes context o.steps o.stands)

pub returns-in_ok-take_all-in-Ok-clause-prompt : goal.returns-in_ok-take_all-in-Ok-clause-prompt
returns-in_ok-take_all-in-Ok-clause-prompt g c = λ none context. c.in-Ok.ensures.prompt (g.S.Syntax.rules context).long_quotes (g.met.S.Syntax.is_prompt context) none

pub returns-in_err-take_all-in-Ok-clause-refuses : goal.returns-in_err-take_all-in-Ok-clause-refuses
returns-in_err-take_all-in-Ok-clause-refuses g c = passed c.from_residual.result c.in_err-take_all-in-Ok.field-0.0 _ c.from_residual.ensures.1
    (λ other context bytes o. front_refused bytes c.in-Ok.left c.args.piece.now (refused_among c.tokens_come_always.ensures.rest o c.new-tokens.ensures.items c.in-Ok.ensures.ok (c.in_err-take_all-in-Ok.ensures.refuses other context o.steps o.stands)))

pub returns-in_ok-take_all-in-Err-clause-refuses : goal.returns-in_ok-take_all-in-Err-clause-refuses
returns-in_ok-take_all-in-Err-clause-refuses g c = λ other context bytes o. stopped_there o c.new-tokens.ensures.items (c.in-Err.ensures.bad o.lexer_open (search rules)) (c.in_ok-take_all-in-Err.ensures.takes context o.steps o.stands) c.refusal_of.ensures

pub returns-in_err-take_all-in-Err-clause-refuses : goal.returns-in_err-take_all-in-Err-clause-refuses
returns-in_err-take_all-in-Err-clause-refuses g c = passed c.from_residual-in_err-take_all-in-Err.result c.in_err-take_all-in-Err.field-0.0 _ c.from_residual-in_err-take_all-in-Err.ensures.1
    (λ other context bytes o. refused_before o c.new-tokens.ensures.items (c.in-Err.ensures.bad o.lexer_open (search rules)) (c.in_err-take_all-in-Err.ensures.refuses other context o.steps o.stands))
