use Rattle.rdf_mapping.proofs.GroupLaws.{axiom_in_group, group_of_axiom, set_of_axiom}
use Rattle.rdf_mapping.proofs.note_laws.groups_are_of_axioms.Goals as goal

pub returns-clause-axiom : goal.returns-clause-axiom
returns-clause-axiom c = axiom_in_group

pub returns-clause-group : goal.returns-clause-group
returns-clause-group c = group_of_axiom

pub returns-clause-set : goal.returns-clause-set
returns-clause-set c = set_of_axiom
