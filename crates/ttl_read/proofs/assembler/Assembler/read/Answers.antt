use Rattle.std.proofs.Common.{subst}
use Rattle.owl_reader.specs.Computing.{Computes}
use Rattle.ttl_read.proofs.Shown.{term_shown}
use Rattle.ttl_read.proofs.assembler.Assembler.read.Goals as goal

pub returns : goal.returns
returns c = λ state wanted h k.
    term_shown c.args.self.now c.read.new.self state wanted c.in_ok-term.field-0 (subst (λ r. Computes r wanted) c.in_ok-term.was k) h c.read.ensures
