use Rattle.rdf_faults.proofs.FaultLaws.{no_bad_cell, no_bad_node, no_cyclic, no_mixed}
use Rattle.rdf_faults.proofs.laws.nodes_have_their_form.Goals as goal

pub returns-clause-mixed : goal.returns-clause-mixed
returns-clause-mixed c = no_mixed

pub returns-clause-cell : goal.returns-clause-cell
returns-clause-cell c = no_bad_cell

pub returns-clause-node : goal.returns-clause-node
returns-clause-node c = no_bad_node

pub returns-clause-cyclic : goal.returns-clause-cyclic
returns-clause-cyclic c = no_cyclic
