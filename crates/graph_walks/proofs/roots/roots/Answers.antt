use Rattle.graph_walks.proofs.Parting.{heads_apart}
use Rattle.graph_walks.proofs.roots.roots.Goals as goal

pub returns : goal.returns
returns c = heads_apart c.args.nodes c.args.numbers.now c.deref.result.now c.in_ok-heading.field-0.items c.in_ok-heading.ensures
