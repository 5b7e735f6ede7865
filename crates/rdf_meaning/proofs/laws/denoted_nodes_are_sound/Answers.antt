use Rattle.rdf_meaning.proofs.GroundLaws.{sound_grounded}
use Rattle.rdf_meaning.proofs.SoundLaws.{ends_sound, main_leads, one_sound}
use Rattle.rdf_meaning.proofs.laws.denoted_nodes_are_sound.Goals as goal

pub returns-clause-term : goal.returns-clause-term
returns-clause-term c = one_sound

pub returns-clause-ends : goal.returns-clause-ends
returns-clause-ends c = ends_sound

pub returns-clause-axiom_node : goal.returns-clause-axiom_node
returns-clause-axiom_node c = main_leads

pub returns-clause-grounded : goal.returns-clause-grounded
returns-clause-grounded c = sound_grounded
