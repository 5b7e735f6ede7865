use Rattle.man_resolve.proofs.OneWayLaws.{never_both, one_fault, one_ontology}
use Rattle.man_resolve.proofs.laws.frames_mean_one_ontology.Goals as goal

pub returns : goal.returns
returns c = record { ontology = one_ontology; fault = one_fault; apart = never_both }
