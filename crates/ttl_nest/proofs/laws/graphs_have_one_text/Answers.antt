use Rattle.ttl_nest.proofs.OneFormLaws.{one_text}
use Rattle.ttl_nest.proofs.laws.graphs_have_one_text.Goals as goal

pub returns : goal.returns
returns c = one_text
