use Rattle.std.proofs.Common.{rules}
use Rattle.profile_sorts.specs.LeafTests.{name_passes}
use Rattle.profile_sorts.proofs.leaf_test.LeafTest.passes_name.Goals as goal

pub returns-in-Thing : goal.returns-in-Thing
unfolding name_passes
returns-in-Thing c = search rules

pub returns-in-NotThing : goal.returns-in-NotThing
unfolding name_passes
returns-in-NotThing c = search rules

pub returns-then-not-in_map : goal.returns-then-not-in_map
unfolding name_passes
returns-then-not-in_map c = search rules

pub returns-else-not-in_map : goal.returns-else-not-in_map
unfolding name_passes
returns-else-not-in_map c = search rules

pub returns-in-RlDatatype : goal.returns-in-RlDatatype
unfolding name_passes
returns-in-RlDatatype c = search rules

pub returns-in-OrdinaryObjectProperty : goal.returns-in-OrdinaryObjectProperty
unfolding name_passes
returns-in-OrdinaryObjectProperty c = search rules

pub returns-in-OrdinaryDataProperty : goal.returns-in-OrdinaryDataProperty
unfolding name_passes
returns-in-OrdinaryDataProperty c = search rules

pub returns-in-ZeroOrOne : goal.returns-in-ZeroOrOne
unfolding name_passes
returns-in-ZeroOrOne c = search rules
