use Rattle.rdf_scans.proofs.Giving.{last_only}
use Rattle.rdf_scans.proofs.header.only.Goals as goal

pub returns : goal.returns
returns c = last_only c.args.iris.items c.pop.result c.args.iris.len c.args.iris.ok.0 c.requires c.pop.ensures.variant.0 c.pop.ensures.value
