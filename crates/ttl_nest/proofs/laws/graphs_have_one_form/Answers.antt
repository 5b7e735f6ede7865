use Rattle.ttl_nest.proofs.OneFormLaws as laws
use Rattle.ttl_nest.proofs.laws.graphs_have_one_form.Goals as goal

pub returns : goal.returns
returns c = laws.graphs_have_one_form
