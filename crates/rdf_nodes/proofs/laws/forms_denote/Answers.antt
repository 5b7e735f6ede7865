use Rattle.rdf_nodes.proofs.OperandLaws.{form_denotes}
use Rattle.rdf_nodes.proofs.laws.forms_denote.Goals as goal

pub returns : goal.returns
returns c = form_denotes
