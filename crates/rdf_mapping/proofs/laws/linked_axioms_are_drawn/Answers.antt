use Rattle.rdf_mapping.specs.LinkedLaws.{linked_drawn, linked_statement, typed_drawn}
use Rattle.rdf_mapping.proofs.laws.linked_axioms_are_drawn.Goals as goal

pub returns-clause-linked : goal.returns-clause-linked
returns-clause-linked c = linked_drawn

pub returns-clause-typed : goal.returns-clause-typed
returns-clause-typed c = typed_drawn

pub returns-clause-statement : goal.returns-clause-statement
returns-clause-statement c = linked_statement
