use Rattle.rdf_faults.proofs.FaultLaws.{no_note_of_nothing, no_orphan}
use Rattle.rdf_faults.proofs.laws.nodes_belong.Goals as goal

pub returns-clause-orphan : goal.returns-clause-orphan
returns-clause-orphan c = no_orphan

pub returns-clause-of_nothing : goal.returns-clause-of_nothing
returns-clause-of_nothing c = no_note_of_nothing
