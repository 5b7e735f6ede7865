use Rattle.rdf_meaning.proofs.GroundLaws.{keys_grounded, list_grounded, main_grounded, no_cycle, one_grounded}
use Rattle.rdf_meaning.proofs.laws.denoted_nodes_are_grounded.Goals as goal

pub returns-clause-term : goal.returns-clause-term
returns-clause-term c = one_grounded

pub returns-clause-list : goal.returns-clause-list
returns-clause-list c = list_grounded

pub returns-clause-keys : goal.returns-clause-keys
returns-clause-keys c = keys_grounded

pub returns-clause-axiom_node : goal.returns-clause-axiom_node
returns-clause-axiom_node c = main_grounded

pub returns-clause-no_cycle : goal.returns-clause-no_cycle
returns-clause-no_cycle c = no_cycle
