use Rattle.rdf_mapping.proofs.MainLaws.{says_main}
use Rattle.rdf_mapping.proofs.graph_laws.axioms_are_main_triples.Goals as goal

pub returns : goal.returns
returns c = says_main
