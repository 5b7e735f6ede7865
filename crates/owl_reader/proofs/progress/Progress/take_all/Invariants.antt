use Rattle.std.proofs.Common.{◌≡◌, length}
use Rattle.std.specs.Vec.Iter.{into_iter_items, into_iter_len}
use Rattle.owl_lexer.specs.Languages.{AreSpelled}
use Rattle.owl_reader.specs.Standing.{CanStand}
use Rattle.owl_reader.proofs.Tokens.{PassesTo}
use Rattle.owl_reader.proofs.progress.Progress.take_all.Given as goal

-- what was made of the tokens so far, and those that are left
abbrev pub invariant-loop-placed : goal.invariant-loop-placed
invariant-loop-placed g l = record {
  passes : (context : g.S.Syntax.Context) → PassesTo g.S.Grammar.Table.grammar (g.S.Syntax.rules context) (g.S.Syntax.Made context) l.fn.self.parser l.fn.self.syntax l.fn.self.last l.fn.tokens.items l.self.parser l.self.syntax l.self.last (into_iter_items l.placed-iterator);
  stands : (context : g.S.Syntax.Context) × CanStand g.S.Grammar.Table.grammar (g.S.Syntax.rules context) (g.S.Syntax.Made context) l.self.parser l.self.syntax l.self.last;
  len : into_iter_len l.placed-iterator ≡ length (into_iter_items l.placed-iterator);
  spelled : AreSpelled g.S.Language.TokenLanguage.spells (into_iter_items l.placed-iterator);
}
