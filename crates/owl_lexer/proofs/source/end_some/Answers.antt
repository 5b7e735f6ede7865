-- What is left is settled, and a character that is cut off is no character.
use Rattle.std.proofs.Common.{refl, ◌∙◌}
use Rattle.owl_characters.proofs.ResultLaws.{passed}
use Rattle.owl_lexer.proofs.Bytes.{unfinished_of}
use Rattle.owl_lexer.proofs.Moving.{ends_all, ends_badly, ends_cut, ends_some}
use Rattle.owl_lexer.proofs.source.end_some.Goals as goal

pub returns-in_err-settle-clause-err : goal.returns-in_err-settle-clause-err
returns-in_err-settle-clause-err g c =
    let fault = c.in_err-settle.field-0.0 in
    passed c.from_residual.result fault _ c.from_residual.ensures.1
    (ends_badly g.L.TokenLanguage.automaton g.L.TokenLanguage.value_of c.args.source.now c.args.again.now c.args.into.now.items c.settle.new.into.items fault c.requires.open_yet c.in_err-settle.ensures.err)

pub returns-then-is_stuck-clause-some : goal.returns-then-is_stuck-clause-some
returns-then-is_stuck-clause-some g c is =
    ends_some g.L.TokenLanguage.automaton g.L.TokenLanguage.value_of c.args.source.now c.settle.new.hand c.args.again.now c.settle.new.again c.args.into.now.items c.settle.new.into.items c.requires.open_yet c.in_ok-settle.ensures.ok

pub returns-in-Ok-clause-all : goal.returns-in-Ok-clause-all
returns-in-Ok-clause-all g c is =
    ends_all g.L.TokenLanguage.automaton g.L.TokenLanguage.value_of c.args.source.now c.settle.new.hand c.args.again.now c.settle.new.again c.args.into.now.items c.settle.new.into.items c.requires.open_yet c.in_ok-settle.ensures.ok ((c.if-is_stuck.ensures.free refl).1 (c.in_ok-settle.ensures.ok.ended ∙ c.requires.ended)) (c.if-is_stuck.ensures.free refl).0 c.in-Ok.ensures.ok.0

pub returns-in-Err-clause-err : goal.returns-in-Err-clause-err
returns-in-Err-clause-err g c =
    ends_cut g.L.TokenLanguage.automaton g.L.TokenLanguage.value_of c.args.source.now c.settle.new.hand c.args.again.now c.settle.new.again c.args.into.now.items c.settle.new.into.items c.requires.open_yet c.in_ok-settle.ensures.ok ((c.if-is_stuck.ensures.free refl).1 (c.in_ok-settle.ensures.ok.ended ∙ c.requires.ended)) (c.if-is_stuck.ensures.free refl).0 (unfinished_of c.args.source.now.feed c.requires.open_yet.clean c.in-Err.ensures.err.1).1
