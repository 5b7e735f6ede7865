-- No portion is as long as a list may be, so nothing is taken again.
use Rattle.std.proofs.Common.{rules}
use Rattle.owl_lexer.proofs.Portions.{no_end_held, none_held, none_left, on_err, on_ok}
use Rattle.owl_lexer.proofs.lexer.Lexer.feed.Goals as goal
use Rattle.owl_lexer.proofs.lexer.Lexer.feed.Goals.{in-Ok, in-Err}

pub returns-clause-early : goal.returns-clause-early
returns-clause-early g c = elim c.match-told.branch [
  | in-Ok w ↦ on_ok c.match-told.result _ w.result-is (none_held g.L.TokenLanguage.automaton g.L.TokenLanguage.value_of g.L.TokenLanguage.spells g.met.L.TokenLanguage.is_language c.take_piece-told.new.source c.take_piece-told.new.again w.in-Ok.ensures.open_yet (w.in-Ok.ensures.done (none_left w.in-Ok.field-0 _ _ (search rules) w.in-Ok.ensures.more)))
  | in-Err w ↦ on_err _ c.match-told.result _ w.result-is
]

pub returns-clause-prompt : goal.returns-clause-prompt
returns-clause-prompt g c = λ words prompt. elim c.match-told.branch [
  | in-Ok w ↦ on_ok c.match-told.result _ w.result-is (no_end_held g.L.TokenLanguage.automaton g.L.TokenLanguage.value_of g.L.TokenLanguage.spells g.met.L.TokenLanguage.is_language words prompt c.take_piece-told.new.source c.take_piece-told.new.again w.in-Ok.ensures.open_yet (w.in-Ok.ensures.done (none_left w.in-Ok.field-0 _ _ (search rules) w.in-Ok.ensures.more)))
  | in-Err w ↦ on_err _ c.match-told.result _ w.result-is
]
