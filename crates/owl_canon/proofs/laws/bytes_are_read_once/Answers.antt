use Rattle.owl_canon.proofs.OntologyBytes.{reads_once, reads_same}
use Rattle.owl_canon.proofs.laws.bytes_are_read_once.Goals as goal

pub returns : goal.returns
returns c = record { once = reads_once; same = reads_same }
