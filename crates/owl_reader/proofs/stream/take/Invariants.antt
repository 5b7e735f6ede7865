-- The piece so far was taken.
use Rattle.std.proofs.Common.{◌-◌}
use Rattle.owl_characters.specs.Limit.{most_bytes}
use Rattle.owl_reader.proofs.Streams.{TakesSoFar}
use Rattle.owl_reader.proofs.stream.take.Given as goal

abbrev pub invariant-loop-count : goal.invariant-loop-count
invariant-loop-count g l =
    TakesSoFar g.S.Language.TokenLanguage.spells g.S.Grammar.Table.grammar g.S.Syntax.rules g.S.Syntax.Made l.fn.lexer l.fn.progress.parser l.fn.progress.syntax l.fn.progress.last l.lexer l.progress.parser l.progress.syntax l.progress.last l.piece l.place

abbrev pub decreases-loop-count : goal.decreases-loop-count
decreases-loop-count g l = most_bytes - l.lexer.begun.at
