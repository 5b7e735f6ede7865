use Rattle.owl_canon.proofs.WholeDocuments.{within_limits}
use Rattle.owl_canon.proofs.calls.keeps_limits.Goals as goal

pub returns : goal.returns
returns c = within_limits c.args.doc.now c.arena.result.now c.arena.ensures c.axioms-axioms.ensures.document c.distinct-trees.ensures.shared c.requires
