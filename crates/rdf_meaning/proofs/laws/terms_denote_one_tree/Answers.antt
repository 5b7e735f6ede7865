use Rattle.rdf_meaning.proofs.DenotationLaws.{one_axiom_row, one_key_list, one_list, one_node_row, one_of_parts, one_tree, one_tree_of_node}
use Rattle.rdf_meaning.proofs.laws.terms_denote_one_tree.Goals as goal

pub returns-clause-tree : goal.returns-clause-tree
returns-clause-tree c = one_tree

pub returns-clause-list : goal.returns-clause-list
returns-clause-list c = one_list

pub returns-clause-keys : goal.returns-clause-keys
returns-clause-keys c = one_key_list

pub returns-clause-parts : goal.returns-clause-parts
returns-clause-parts c = one_of_parts

pub returns-clause-row : goal.returns-clause-row
returns-clause-row c = one_node_row

pub returns-clause-axiom_row : goal.returns-clause-axiom_row
returns-clause-axiom_row c = one_axiom_row

pub returns-clause-any_sort : goal.returns-clause-any_sort
returns-clause-any_sort c = one_tree_of_node
