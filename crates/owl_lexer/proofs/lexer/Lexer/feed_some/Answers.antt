-- Where all was taken, nothing is taken again.
use Rattle.owl_lexer.proofs.Portions.{if_ok_both, no_end_held}
use Rattle.owl_lexer.proofs.lexer.Lexer.feed_some.Goals as goal

pub returns-clause-prompt : goal.returns-clause-prompt
returns-clause-prompt g c = λ words prompt.
    if_ok_both c.take_piece-told.result
    (λ left open_yet done none. no_end_held g.L.TokenLanguage.automaton g.L.TokenLanguage.value_of g.L.TokenLanguage.spells g.met.L.TokenLanguage.is_language words prompt c.take_piece-told.new.source c.take_piece-told.new.again open_yet (done none))
    c.take_piece-told.ensures.open_yet c.take_piece-told.ensures.done
