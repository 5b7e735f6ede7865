use Rattle.rdf_reverse.proofs.ClashLaws.{clash_same}
use Rattle.rdf_reverse.proofs.laws.guesses_make_no_clash.Goals as goal

pub returns : goal.returns
returns c = clash_same
