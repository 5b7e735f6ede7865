use Rattle.std.proofs.Common.{length}
use Rattle.rdf_forward.proofs.Headers.{ImportsOn}
use Rattle.rdf_forward.proofs.writer.Writer.write_imports.Given as goal

abbrev pub invariant-loop-left : goal.invariant-loop-left
invariant-loop-left l = ImportsOn l.holder l.initial.self l.self l.imports l.left

abbrev pub decreases-loop-left : goal.decreases-loop-left
decreases-loop-left l = length l.left
