use Rattle.rdf_mapping.proofs.RoleLaws.{individual_role, main_role}
use Rattle.rdf_mapping.proofs.graph_laws.roles_are_read_back.Goals as goal

pub returns-clause-individual : goal.returns-clause-individual
returns-clause-individual c = individual_role

pub returns-clause-main : goal.returns-clause-main
returns-clause-main c = main_role
