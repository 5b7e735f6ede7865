use Rattle.rdf_faults.proofs.FormLaws.{formed_is_sound}
use Rattle.rdf_faults.proofs.laws.nodes_are_formed.Goals as goal

pub returns : goal.returns
returns c = record { sound = formed_is_sound }
