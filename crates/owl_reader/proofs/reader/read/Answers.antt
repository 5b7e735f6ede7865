use Rattle.std.proofs.Common.{refl, arith, ◌-◌}
use Rattle.owl_characters.specs.Limit.{most_bytes}
use Rattle.std.proofs.lemmas.Result.{IfErr-weaker}
use Rattle.owl_characters.proofs.ResultLaws.{passed}
use Rattle.owl_reader.proofs.Early.{none_before_space}
use Rattle.owl_reader.proofs.Reporting.{first_always, front_fits, piece_fits, refuses_front, refuses_long}
use Rattle.owl_reader.proofs.reader.read.Goals as goal

pub returns-in_err-take-clause-refuses : goal.returns-in_err-take-clause-refuses
returns-in_err-take-clause-refuses g c = passed c.from_residual.result c.in_err-take.field-0.0 _ c.from_residual.ensures.1 (λ other context bytes fed o.
    refuses_front bytes c.args.piece.now _ (most_bytes - c.args.fed) c.in_err-take.field-0.0 (c.in_err-take.ensures.refuses other context bytes o) refl (front_fits bytes c.args.piece.now c.args.fed fed c.requires.within))

pub returns-then-room-piece-clause-refuses : goal.returns-then-room-piece-clause-refuses
returns-then-room-piece-clause-refuses g c = λ other context bytes fed o.
    refuses_long bytes c.args.piece.now c.args.fed fed c.requires.within (omega (arith, c.if-room-piece.true))
    (none_before_space g.met.S.Grammar.Table.predictive (g.met.S.Syntax.has_document context) (c.in_ok-take.ensures.prompt context) (c.in_ok-take.ensures.takes context bytes o))

pub returns-clause-refuses : goal.returns-clause-refuses
returns-clause-refuses g c =
    IfErr-weaker c.take-2.result _ _ (λ e refuses other context bytes fed o. first_always _ e (refuses other context bytes o) (piece_fits bytes c.args.piece.now c.args.fed fed (omega arith))) c.take-2.ensures.refuses
