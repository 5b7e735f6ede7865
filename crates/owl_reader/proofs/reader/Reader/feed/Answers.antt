use Rattle.std.proofs.Common.{refl, sym, ap, ◌∙◌}
use Rattle.owl_reader.specs.Readings.{Reading}
use Rattle.owl_reader.proofs.Early.{tells_early}
use Rattle.owl_reader.proofs.Reporting.{can_read, moved, reads_more, refuses_on}
use Rattle.owl_reader.proofs.reader.Reader.feed.Goals as goal

pub returns-in-Some-clause-refuses : goal.returns-in-Some-clause-refuses
returns-in-Some-clause-refuses g c = λ other context bytes h.
    refuses_on bytes c.args.piece.now _ (h.refuses c.in-Some.fault (ap (λ (r : Reading _). r.refused) (sym c.self.view_is) ∙ c.in-Some.is) other)

pub invariant_of-self : goal.invariant_of-self
invariant_of-self g c = (λ none. c.in-Ok.ensures.prompt, λ none. let can = c.self.invariant.1 none in (can.0, can_read _ c.read.new.lexer c.read.new.progress.parser c.read.new.progress.syntax c.read.new.progress.last c.args.piece.now _ can.1 (c.in-Ok.ensures.reads can.0) c.in-Ok.ensures.within))

pub returns-in-Err-clause-refuses : goal.returns-in-Err-clause-refuses
returns-in-Err-clause-refuses g c = λ other context bytes h.
    let here = moved _ c.args.self.now bytes c.self.view_is h in
    c.in-Err.ensures.refuses other context bytes (here.fed c.in_default.is) (here.open_yet c.in_default.is)

pub returns-in-Ok-clause-reads : goal.returns-in-Ok-clause-reads
returns-in-Ok-clause-reads g c = λ context bytes h.
    reads_more _ c.read.new.lexer c.read.new.progress.parser c.read.new.progress.syntax c.read.new.progress.last bytes c.args.piece.now c.in_default.is (moved _ _ bytes c.self.view_is h) (c.in-Ok.ensures.reads context)

pub returns-then-is_empty-clause-early : goal.returns-then-is_empty-clause-early
returns-then-is_empty-clause-early g c = λ context.
    tells_early _ _ c.self.view_is g.met.S.Grammar.Table.predictive (g.met.S.Syntax.has_document context) c.in_default.is (c.self.invariant.0 c.in_default.is context)

pub returns-in-Ok-clause-early : goal.returns-in-Ok-clause-early
returns-in-Ok-clause-early g c = λ context.
    tells_early _ _ refl g.met.S.Grammar.Table.predictive (g.met.S.Syntax.has_document context) c.in_default.is (c.in-Ok.ensures.prompt context)
