use Rattle.owl_doc.proofs.Begun.{grown_kept}
use Rattle.owl_doc.proofs.builder.Builder.leaf.Goals as goal

pub invariant_of-self : goal.invariant_of-self
invariant_of-self c = grown_kept c.self.inside c.leaf.new.self _ c.leaf.result c.leaf.ensures.added c.leaf.ensures.err c.self.invariant
