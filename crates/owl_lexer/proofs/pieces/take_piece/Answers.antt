-- The same in tokens.
use Rattle.std.proofs.Common.{arith, ap, subst}
use Rattle.std.proofs.lemmas.Result.{IfErr-weaker, IfOk-weaker}
use Rattle.owl_lexer.specs.BytesGiving.{BegunBytes, end_of_bytes}
use Rattle.owl_lexer.specs.Lexing.{taken_of}
use Rattle.owl_lexer.specs.Sources.{bytes_of, RefusesPiece, TakesPiece, begun_with_again, bytes_with}
use Rattle.owl_lexer.proofs.Moving.{open_told, same_told}
use Rattle.owl_lexer.proofs.Tokens.{end_is, refuses_piece, takes_piece}
use Rattle.owl_lexer.proofs.pieces.take_piece.Goals as goal

pub take_some-requires-clause-room : goal.take_some-requires-clause-room
take_some-requires-clause-room g c =
    omega (arith, end_is (begun_with_again c.args.source.now c.args.again.now), ap end_of_bytes (same_told c.args.source.now c.args.again.now c.tell_ended.new.again c.tell_ended.ensures.chars), c.requires.room)

pub returns-clause-ok : goal.returns-clause-ok
returns-clause-ok g c =
    IfOk-weaker c.take_some.result _ _
    (λ left t. subst (λ (b : BegunBytes). TakesPiece g.L.TokenLanguage.spells (bytes_of b) (taken_of left c.args.piece.now) c.args.into.now.items c.take_some.new.into.items (bytes_with c.take_some.new.source c.take_some.new.again)) (same_told c.args.source.now c.args.again.now c.tell_ended.new.again c.tell_ended.ensures.chars)
    (takes_piece g.L.TokenLanguage.automaton g.L.TokenLanguage.value_of g.L.TokenLanguage.spells g.met.L.TokenLanguage.is_language c.args.source.now c.take_some.new.source c.tell_ended.new.again c.take_some.new.again (taken_of left c.args.piece.now) c.args.into.now.items c.take_some.new.into.items (open_told g.L.TokenLanguage.automaton c.args.source.now c.args.again.now c.tell_ended.new.again c.requires.open_yet c.tell_ended.ensures.chars c.tell_ended.ensures.lost) t))
    c.take_some.ensures.ok

pub returns-clause-err : goal.returns-clause-err
returns-clause-err g c =
    IfErr-weaker c.take_some.result _ _
    (λ fault r. subst (λ (b : BegunBytes). RefusesPiece g.L.TokenLanguage.spells (bytes_of b) c.args.piece.now c.args.into.now.items c.take_some.new.into.items fault) (same_told c.args.source.now c.args.again.now c.tell_ended.new.again c.tell_ended.ensures.chars)
    (refuses_piece g.L.TokenLanguage.automaton g.L.TokenLanguage.value_of g.L.TokenLanguage.spells g.met.L.TokenLanguage.is_language c.args.source.now c.tell_ended.new.again c.args.piece.now c.args.into.now.items c.take_some.new.into.items fault (open_told g.L.TokenLanguage.automaton c.args.source.now c.args.again.now c.tell_ended.new.again c.requires.open_yet c.tell_ended.ensures.chars c.tell_ended.ensures.lost) r))
    c.take_some.ensures.err
