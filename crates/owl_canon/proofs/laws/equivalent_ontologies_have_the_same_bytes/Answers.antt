use Rattle.owl_canon.proofs.OntologyBytes.{only_same_bytes, same_bytes}
use Rattle.owl_canon.proofs.laws.equivalent_ontologies_have_the_same_bytes.Goals as goal

pub returns : goal.returns
returns c = record { same = same_bytes; only = only_same_bytes }
