use Rattle.rdf_reverse.proofs.HeightLaws.{low_graph}
use Rattle.rdf_reverse.proofs.heights.is_low.Goals as goal

pub returns : goal.returns
returns c low = low_graph c.args.reading.now.graph.now c.args.reading.now.kinds.now c.args.reading.now.header.now c.in_ok-heights.heights.entries (c.all_rise.ensures low)
