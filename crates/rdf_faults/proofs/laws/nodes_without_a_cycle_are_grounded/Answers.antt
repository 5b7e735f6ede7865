use Rattle.rdf_faults.proofs.WayDownLaws.{all_grounded}
use Rattle.rdf_faults.proofs.laws.nodes_without_a_cycle_are_grounded.Goals as goal

pub returns : goal.returns
returns c = record { grounded = all_grounded }
