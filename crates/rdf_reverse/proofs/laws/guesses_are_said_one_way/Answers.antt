use Rattle.rdf_reverse.proofs.GuessLaws.{fault_with_none, never_both_with, said_with_once, unsaid_with_once, with_none}
use Rattle.rdf_reverse.proofs.laws.guesses_are_said_one_way.Goals as goal

pub returns-clause-ontology : goal.returns-clause-ontology
returns-clause-ontology c = said_with_once

pub returns-clause-fault : goal.returns-clause-fault
returns-clause-fault c = unsaid_with_once

pub returns-clause-apart : goal.returns-clause-apart
returns-clause-apart c = never_both_with

pub returns-clause-none : goal.returns-clause-none
returns-clause-none c = with_none

pub returns-clause-no_fault : goal.returns-clause-no_fault
returns-clause-no_fault c = fault_with_none
