-- What comes of the lexer stands behind what was taken.
use Rattle.std.proofs.Common.{length}
use Rattle.owl_reader.proofs.Streams.{EndsSoFar}
use Rattle.owl_reader.proofs.stream.take_last.Given as goal

abbrev pub invariant-loop : goal.invariant-loop
invariant-loop g l =
    EndsSoFar g.S.Language.TokenLanguage.spells g.S.Grammar.Table.grammar g.S.Syntax.rules g.S.Syntax.Made l.fn.lexer l.fn.progress.parser l.fn.progress.syntax l.fn.progress.last l.lexer l.progress.parser l.progress.syntax l.progress.last

abbrev pub decreases-loop : goal.decreases-loop
decreases-loop g l = length l.lexer.begun.held
