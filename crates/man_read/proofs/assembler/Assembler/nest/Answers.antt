use Rattle.std.proofs.Common.{◌<◌, ℕ, subst}
use Rattle.man_raw.specs.Opened.{most_nests}
use Rattle.man_read.proofs.ShowingLaws.{nest_read}
use Rattle.man_read.proofs.assembler.Assembler.nest.Goals as goal

pub returns : goal.returns
returns c = λ state h. nest_read c.args.self.now state h c.nest.new.self (subst (λ (n : ℕ). n < most_nests) c.nests.ensures c.if-nests-ge-MOST_NESTS.false) c.nest.ensures
