-- The same in tokens.
use Rattle.std.proofs.Common.{arith, ap, subst}
use Rattle.std.proofs.lemmas.Result.{IfErr-weaker, IfOk-weaker}
use Rattle.owl_lexer.specs.BytesGiving.{BegunBytes, end_of_bytes}
use Rattle.owl_lexer.specs.Sources.{bytes_of, EndsPieces, EndsPiecesBadly, EndsSomePieces, begun_with_again, bytes_with}
use Rattle.owl_lexer.proofs.Moving.{open_told, same_told}
use Rattle.owl_lexer.proofs.Tokens.{end_is, ends_pieces, ends_pieces_badly, ends_some_pieces}
use Rattle.owl_lexer.proofs.pieces.end_pieces.Goals as goal

pub end_some-requires-clause-room : goal.end_some-requires-clause-room
end_some-requires-clause-room g c =
    omega (arith, end_is (begun_with_again c.args.source.now c.args.again.now), ap end_of_bytes (same_told c.args.source.now c.args.again.now c.tell_ended.new.again c.tell_ended.ensures.chars), c.requires.room)

pub returns-clause-all : goal.returns-clause-all
returns-clause-all g c =
    IfOk-weaker c.end_some.result _ _
    (λ done e is. subst (λ (b : BegunBytes). EndsPieces g.L.TokenLanguage.spells (bytes_of b) c.args.into.now.items c.end_some.new.into.items (bytes_with c.end_some.new.source c.end_some.new.again)) (same_told c.args.source.now c.args.again.now c.tell_ended.new.again c.tell_ended.ensures.chars)
    (ends_pieces g.L.TokenLanguage.automaton g.L.TokenLanguage.value_of g.L.TokenLanguage.spells g.met.L.TokenLanguage.is_language c.args.source.now c.end_some.new.source c.tell_ended.new.again c.end_some.new.again c.args.into.now.items c.end_some.new.into.items (open_told g.L.TokenLanguage.automaton c.args.source.now c.args.again.now c.tell_ended.new.again c.requires.open_yet c.tell_ended.ensures.chars c.tell_ended.ensures.lost) (e is)))
    c.end_some.ensures.all

pub returns-clause-some : goal.returns-clause-some
returns-clause-some g c =
    IfOk-weaker c.end_some.result _ _
    (λ done e is. subst (λ (b : BegunBytes). EndsSomePieces g.L.TokenLanguage.spells (bytes_of b) c.args.into.now.items c.end_some.new.into.items (bytes_with c.end_some.new.source c.end_some.new.again)) (same_told c.args.source.now c.args.again.now c.tell_ended.new.again c.tell_ended.ensures.chars)
    (ends_some_pieces g.L.TokenLanguage.automaton g.L.TokenLanguage.value_of g.L.TokenLanguage.spells g.met.L.TokenLanguage.is_language c.args.source.now c.end_some.new.source c.tell_ended.new.again c.end_some.new.again c.args.into.now.items c.end_some.new.into.items (open_told g.L.TokenLanguage.automaton c.args.source.now c.args.again.now c.tell_ended.new.again c.requires.open_yet c.tell_ended.ensures.chars c.tell_ended.ensures.lost) (e is)))
    c.end_some.ensures.some

pub returns-clause-err : goal.returns-clause-err
returns-clause-err g c =
    IfErr-weaker c.end_some.result _ _
    (λ fault r. subst (λ (b : BegunBytes). EndsPiecesBadly g.L.TokenLanguage.spells (bytes_of b) c.args.into.now.items c.end_some.new.into.items fault) (same_told c.args.source.now c.args.again.now c.tell_ended.new.again c.tell_ended.ensures.chars)
    (ends_pieces_badly g.L.TokenLanguage.automaton g.L.TokenLanguage.value_of g.L.TokenLanguage.spells g.met.L.TokenLanguage.is_language c.args.source.now c.tell_ended.new.again c.args.into.now.items c.end_some.new.into.items fault (open_told g.L.TokenLanguage.automaton c.args.source.now c.args.again.now c.tell_ended.new.again c.requires.open_yet c.tell_ended.ensures.chars c.tell_ended.ensures.lost) r))
    c.end_some.ensures.err
