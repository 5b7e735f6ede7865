use Rattle.std.proofs.Common.{length}
use Rattle.fss_acts.proofs.assembler.Assembler.«+perform_all».Given as goal

abbrev pub decreases-perform_all : goal.decreases-perform_all
decreases-perform_all l = length l.acts.now
