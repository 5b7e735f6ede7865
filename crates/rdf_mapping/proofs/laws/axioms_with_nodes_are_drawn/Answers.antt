use Rattle.rdf_mapping.proofs.StandingLaws.{standing_drawn, standing_kept}
use Rattle.rdf_mapping.proofs.laws.axioms_with_nodes_are_drawn.Goals as goal

pub returns-clause-kept : goal.returns-clause-kept
returns-clause-kept c = standing_kept

pub returns-clause-drawn : goal.returns-clause-drawn
returns-clause-drawn c = standing_drawn
