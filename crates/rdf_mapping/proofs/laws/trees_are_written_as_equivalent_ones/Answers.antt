use Rattle.rdf_mapping.proofs.WrittenLaws.{written_equivalent}
use Rattle.rdf_mapping.proofs.laws.trees_are_written_as_equivalent_ones.Goals as goal

pub returns : goal.returns
returns c = written_equivalent
