use Rattle.std.proofs.Common.{rules}
use Rattle.owl_pool.proofs.Renumbering.{places_there, renumbered}
use Rattle.owl_pool.proofs.pouring.pour_doc.Goals as goal

pub renumbered-requires : goal.renumbered-requires
renumbered-requires c = places_there c.pour.new.pool.trees c.arena.result.now.trees _ (search rules) _ (search rules)

pub renumbered-requires-2 : goal.renumbered-requires-2
renumbered-requires-2 c = places_there c.pour.new.pool.trees c.arena.result.now.trees _ (search rules) _ (search rules)

pub returns-clause-pooled : goal.returns-clause-pooled
returns-clause-pooled c = record {
  notes = renumbered _ _ c.deref.result.now (search rules) _ _ c.notes.ensures.document.notes (search rules);
  axioms = renumbered _ _ c.deref-2.result.now (search rules) _ _ c.notes.ensures.document.axioms (search rules);
}
