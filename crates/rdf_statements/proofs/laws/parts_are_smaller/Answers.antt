use Rattle.rdf_statements.proofs.PartLaws.{part_depth, part_weight}
use Rattle.rdf_statements.proofs.laws.parts_are_smaller.Goals as goal

pub returns-clause-depth : goal.returns-clause-depth
returns-clause-depth c = part_depth

pub returns-clause-weight : goal.returns-clause-weight
returns-clause-weight c = part_weight
