use Rattle.rdf_faults.proofs.MeantLaws.{node_meant}
use Rattle.rdf_faults.proofs.laws.nodes_are_meant.Goals as goal

pub returns : goal.returns
returns c = record { meant = node_meant }
