use Rattle.std.proofs.Common.{map, take}
use Rattle.owl_doc.specs.Documents.{ontology_of}
use Rattle.owl_pool.specs.Pooling.{ArePooled}
use Rattle.owl_pool.proofs.pouring.pour_all.Given as goal

abbrev pub invariant-docs : goal.invariant-docs
invariant-docs l = ArePooled l.pool.trees (map ontology_of (take l.doc-index l.docs)) l.pooled.items
