use Rattle.std.proofs.Common.{refl}
use Rattle.owl_arena.proofs.Kids.{leaf_tag}
use Rattle.owl_arena.proofs.arena.Arena.atom.Goals as goal

-- src/arena.rt:289:5
pub returns-in-Leaf-clause-leaf : goal.returns-in-Leaf-clause-leaf
returns-in-Leaf-clause-leaf c = (λ _. leaf_tag _ _ _ _ _ c.node_at.ensures.entry.shaped c.node_at.ensures.tree c.in-Leaf.is, λ _. refl)
