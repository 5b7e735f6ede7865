use Rattle.rdf_mapping.proofs.AsideLaws.{groups_aside, statement_aside}
use Rattle.rdf_mapping.proofs.note_laws.others_are_aside.Goals as goal

pub returns-clause-statement : goal.returns-clause-statement
returns-clause-statement c = statement_aside

pub returns-clause-groups : goal.returns-clause-groups
returns-clause-groups c = groups_aside
